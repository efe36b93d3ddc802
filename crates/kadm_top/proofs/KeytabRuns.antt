-- What is written of a keytab, and what comes of such a run.
use Rattle.std.proofs.Common.{◌≡◌, ◌≢◌, ◌∙◌, ℕ, List, refl, ap, sym, subst, inl, inr, Bool, true, false, IsTrue, arith}
use Rattle.std.specs.Prelude.{Option, Some, None, Result, Ok, Err, IfErr, IfOk, OnErr, OnOk}
use Rattle.std.proofs.lemmas.Option.{same_Some}
use Rattle.std.proofs.lemmas.Result.{on_err_weaker}
use Rattle.iprop_truths.specs.Parts.{end_of}
use Rattle.kadm_commands.specs.Commands.{IsOwnName}
use Rattle.kadm_keytabs.specs.Additions.{Adds as AddsKeys}
use Rattle.kadm_keytabs.specs.Answers.{Answers, IsFilterHalt, IsPartWritten, IsWritten, refusal_answer}
use Rattle.kadm_keytabs.specs.Removals.{Removes}
use Rattle.kadm_keytabs.specs.Inputs.{IsBadInput, IsKeytabInput}
use Rattle.kadm_keytabs.specs.declared.answers.Answer.{Answer}
use Rattle.kadm_loading.specs.Halts.{SparesOutput}
use Rattle.session_base.specs.Draws.{Draws, moment_in}
use Rattle.session_base.specs.Halts.{Counts}
use Rattle.session_base.specs.Wholes.{IsReadWhole}
use Rattle.session_base.specs.declared.halts.SessionHalt.{SessionHalt}
use Rattle.session_base.specs.declared.halts.SessionHalt.TheVariants as session
use Rattle.kadm_top.proofs.Loads.{part_of_opening}
use Rattle.kadm_top.proofs.Openings.{Answers as Opened_so, is_open, open_having, opened_place}
use Rattle.kadm_top.proofs.Openings.{opened_state, opening_part, refused_always}
use Rattle.kadm_top.proofs.Running.{all_at_end, cut_refusal_run, keeps_like, refused_run, said_nothing}
use Rattle.kadm_top.specs.Openings.{Adds, AddsNew, AddsBy, AMoment, AnswersTold, Drawn, Ends, Filters}
use Rattle.kadm_top.specs.Openings.{HasAdding, HasAddition, HasAnswer, HasKeytab, HasOpening}
use Rattle.kadm_top.specs.Openings.{IsOpening, Loads, Makes, NoDraw, Opening, Opens, ReadsInput}
use Rattle.kadm_top.specs.Openings.{Refuses, Tells, adds_for, behind, filters_for, keytab_for}
use Rattle.kadm_top.specs.Run.{HasRun, HasWritten, IsFront, IsSame, OpensPart, RunEnd}
use Rattle.kadm_top.specs.Run.{RunEndsAs, Same, Shown, Stays, Told, keytab_end, refusal_line}
use Rattle.kadm_top.specs.declared.words.Words.{Words}
use Rattle.kadm_top.specs.declared.words.Words.TheVariants as words
use Rattle.kdb_base.specs.Moment.{Moment}
use Rattle.kdb_base.specs.declared.outcomes.Refusal.{Refusal}
use Rattle.kdb_base.specs.declared.outcomes.Refusal.TheVariants.{BadKeytab, BadName}
use Rattle.kdb_base.specs.declared.outcomes.Stop.{Stop}
use Rattle.kdb_base.specs.declared.outcomes.Stop.TheVariants as stop
use Rattle.kdb_disk.proofs.Runs.{kept}
use Rattle.kdb_disk.specs.Files.{Files}
use Rattle.kdb_disk.specs.Moments.{LeavesOnly}
use Rattle.kdb_disk.specs.View.{View}
use Rattle.kdb_histories.specs.Calls.{resized}
use Rattle.kdb_histories.specs.Seen.{Seen, seen}
use Rattle.kdb_histories.specs.Stages.{ShowsAt, places}
use Rattle.kdb_places.specs.Places.{Place}
use Rattle.kdb_plain.specs.declared.states.State.{State}
use Rattle.kdb_ports.specs.Parts.{SaidPart}
use Rattle.kdb_ports.specs.Told.{after_told}
use Rattle.keytab_out.proofs.Files.{new_holds, not_held, same_place}
use Rattle.keytab_out.specs.Keytabs.{Holds}
use Rattle.keytab_out.specs.declared.removing.Which.{Which}
use Rattle.keytab_words.specs.declared.words.KeytabWords.{KeytabWords}
use Rattle.primary_core.specs.Opened.{HasState, IsOpened, Opened, place_of}
use Rattle.primary_core.specs.Opening.{OpeningRefused, OpensTo, place_found}
use Rattle.princ_name.proofs.OwnNames.{name_of_reading}
use Rattle.princ_name.specs.Names.{NameParts}
use Rattle.princ_name.specs.Readings.{own_name_in}
use Rattle.stash_file.proofs.Uniques.{one_keytab}
use Rattle.stash_file.specs.Pieces.{Told as Entry}
use Rattle.store_files.specs.Found.{Found, found_in}
use Rattle.store_files.specs.Recovery.{RecoversTo}

-- ---- an input has one answer

pub same_entries : (text : List ℕ) (xs ys : List Entry) → Holds text xs → Holds text ys → xs ≡ ys
same_entries text xs ys (inl x) h = x.none ∙ sym (new_holds text x.text_is ys h)
same_entries text xs ys (inr x) (inl y) = new_holds text y.text_is xs (inr x) ∙ sym y.none
same_entries text xs ys (inr x) (inr y) = one_keytab text xs ys x y

pub no_keytab : (text : List ℕ) (entries : List Entry) (place : ℕ) → IsKeytabInput text entries
    → IsBadInput text place → ⊥
no_keytab text entries place k (inl long) = let within = k.within in let longer = long.longer in omega arith
no_keytab text entries place k (inr broken) = not_held text place broken.bad.some broken.bad.broken entries k.holds

pub same_bad : (text : List ℕ) (a b : ℕ) → IsBadInput text a → IsBadInput text b → a ≡ b
same_bad text a b (inl x) (inl y) = x.place_is ∙ sym y.place_is
same_bad text a b (inl x) (inr y) = let within = y.within in let longer = x.longer in absurd (omega arith)
same_bad text a b (inr x) (inl y) = let within = x.within in let longer = y.longer in absurd (omega arith)
same_bad text a b (inr x) (inr y) = same_place text a x.bad.broken b y.bad

-- answered by a function of the entries
abbrev By : (List Entry → Answer) → List Entry → Answer → Type 0
By f entries answer = answer ≡ f entries

one_answer : (f : List Entry → Answer) (text : List ℕ) (a b : Answer) → Answers (By f) text a
    → Answers (By f) text b → a ≡ b
one_answer f text a b (inl x) (inl y) =
    x.answered ∙ ap f (same_entries text x.entries y.entries x.keytab.holds y.keytab.holds) ∙ sym y.answered
one_answer f text a b (inl x) (inr y) = absurd (no_keytab text x.entries y.place x.keytab y.bad)
one_answer f text a b (inr x) (inl y) = absurd (no_keytab text y.entries x.place y.keytab x.bad)
one_answer f text a b (inr x) (inr y) = x.answer_is
    ∙ ap (λ (p : ℕ). refusal_answer (BadKeytab p)) (same_bad text x.place y.place x.bad y.bad) ∙ sym y.answer_is

-- ---- what was written

-- what a run over an input says of the bytes that it wrote
pub record Says (f : List Entry → Answer) (left taken out : Option (List ℕ))
    (r : Result Bool SessionHalt) : Type 0 where
  pub ended : (text : List ℕ) → left ≡ Some text → IfOk r (λ refused. IsWritten (Answers (By f) text) refused taken out)
  pub cut : (text : List ℕ) → left ≡ Some text → r ≡ Err session.WriteFault
      → IsPartWritten (Answers (By f) text) taken out
  pub unwritten : IfErr r (λ halt. halt ≢ session.WriteFault → out ≡ taken)

pub says_so : {K : Type 0} (taken : K → Option (List ℕ)) (f : List Entry → Answer) (left : Option (List ℕ))
    (old new : K) (r : Result Bool SessionHalt)
    → ((text : List ℕ) → left ≡ Some text
    → IfOk r (λ refused. IsWritten (Answers (By f) text) refused (taken old) (taken new)))
    → ((text : List ℕ) → left ≡ Some text → r ≡ Err session.WriteFault
    → IsPartWritten (Answers (By f) text) (taken old) (taken new))
    → IfErr r (λ halt. halt ≢ session.WriteFault → new ≡ old)
    → Says f left (taken old) (taken new) r
says_so taken f left old new (Ok refused) ended cut unwritten = record { ended = ended; cut = cut; unwritten = tt }
says_so taken f left old new (Err halt) ended cut unwritten =
    record { ended = ended; cut = cut; unwritten = λ other. ap taken (unwritten other) }

ended_as : (f : List Entry → Answer) (left taken out : Option (List ℕ)) (r : Result Bool SessionHalt)
    (what : Option Answer) (answer : Answer)
    → Says f left taken out r → AnswersTold (Answers (By f)) left what → what ≡ Some answer
    → IfOk r (λ refused. (out ≡ after_told taken answer.text) × (refused ≡ answer.refused))
ended_as f left taken out (Err halt) what answer says is e = tt
ended_as f None taken out (Ok refused) what answer says is e = absurd (let no = sym is ∙ e in cc)
ended_as f (Some text) taken out (Ok refused) None answer says is e = absurd is
ended_as f (Some text) taken out (Ok refused) (Some a) answer says is e =
    let w = says.ended text refl in
    let same : w.answer ≡ answer = one_answer f text w.answer a w.is is ∙ same_Some _ _ e in
    (w.taken_is ∙ ap (λ (x : Answer). after_told taken x.text) same, w.refused_is ∙ ap (λ (x : Answer). x.refused) same)

no_write : (halt : SessionHalt) → SparesOutput halt → halt ≢ session.WriteFault
no_write halt spares is = subst SparesOutput is spares

front_as : (f : List Entry → Answer) (left taken out : Option (List ℕ)) (r : Result Bool SessionHalt)
    (what : Option Answer)
    → Says f left taken out r → AnswersTold (Answers (By f)) left what → OnErr r (IsFront what taken out)
front_as f left taken out (Ok refused) what says is = tt
front_as f left taken out (Err halt) None says is = tt
front_as f None taken out (Err halt) (Some a) says is = absurd cc
front_as f (Some text) taken out (Err halt) (Some a) says is = by halt says.cut says.unwritten
  where
    by : (h : SessionHalt)
        → ((t : List ℕ) → ◌≡◌ {A = Option (List ℕ)} (Some text) (Some t) → ◌≡◌ {A = Result Bool SessionHalt} (Err h)
        (Err session.WriteFault) → IsPartWritten (Answers (By f) t) taken out)
        → (h ≢ session.WriteFault → out ≡ taken) → SaidPart a.text taken out
    by session.WriteFault cut unwritten =
        let w = cut text refl refl in
        subst (λ (x : Answer). SaidPart x.text taken out) (one_answer f text w.answer a w.is is) w.part
    by session.MemoryOut cut unwritten = said_nothing a.text taken out (unwritten (λ e. cc))
    by session.ReadFault cut unwritten = said_nothing a.text taken out (unwritten (λ e. cc))
    by session.DiskFault cut unwritten = said_nothing a.text taken out (unwritten (λ e. cc))
    by session.DrawFault cut unwritten = said_nothing a.text taken out (unwritten (λ e. cc))
    by session.InputTooLong cut unwritten = said_nothing a.text taken out (unwritten (λ e. cc))

rests_as : (r : Result Bool SessionHalt) (taken out : Option (List ℕ))
    → IfErr r (λ halt. halt ≢ session.WriteFault → out ≡ taken) → IfErr r (λ halt. SparesOutput halt → out ≡ taken)
rests_as (Ok refused) taken out unwritten = tt
rests_as (Err halt) taken out unwritten = λ spares. unwritten (no_write halt spares)

pub written : (f : List Entry → Answer) (left taken out : Option (List ℕ)) (r : Result Bool SessionHalt)
    (what : Option Answer)
    → Says f left taken out r → AnswersTold (Answers (By f)) left what → HasWritten what taken out r
written f left taken out r what says is = record {
  ended = λ answer e. ended_as f left taken out r what answer says is e;
  stopped = front_as f left taken out r what says is;
  rests = rests_as r taken out says.unwritten;
}

pub answered : (f : List Entry → Answer) (left taken out : Option (List ℕ)) (r : Result Bool SessionHalt)
    → Says f left taken out r → OnOk r (HasAnswer (Answers (By f)) left)
answered f left taken out (Err halt) says = tt
answered f None taken out (Ok refused) says = record { what = None; is = refl }
answered f (Some text) taken out (Ok refused) says = let w =
    says.ended text refl in record { what = Some w.answer; is = w.is }

-- the refusal of a name, in place of a keytab
pub refusal_written : (why : Refusal) (taken out : Option (List ℕ)) → out ≡ after_told taken (refusal_line why)
    → HasWritten (Some (refusal_answer why)) taken out (Ok true)
refusal_written why taken out is = record {
  ended = λ answer e. (
    is ∙ ap (λ (x : Answer). after_told taken x.text) (same_Some _ _ e),
    ap (λ (x : Answer). x.refused) (same_Some _ _ e),
  );
  stopped = tt;
  rests = tt;
}

pub refusal_cut : (why : Refusal) (taken out : Option (List ℕ)) (halt : SessionHalt)
    → SaidPart (refusal_line why) taken out → (SparesOutput halt → out ≡ taken)
    → HasWritten (Some (refusal_answer why)) taken out (Err halt)
refusal_cut why taken out halt part nothing = record { ended = λ answer e. tt; stopped = part; rests = nothing }

-- want of memory before
pub nothing_written : (what : Option Answer) (taken : Option (List ℕ))
    → HasWritten what taken taken (Err session.MemoryOut)
nothing_written None taken = record { ended = λ answer e. tt; stopped = tt; rests = λ spares. refl }
nothing_written (Some answer) taken =
    record { ended = λ other e. tt; stopped = said_nothing answer.text taken taken refl; rests = λ spares. refl }

-- ---- by the name

pub by_name : (name : Result NameParts ℕ) (s : State) (clock : Moment) (left : Option (List ℕ)) (reads : Bool)
    (what : Option Answer) (P : Option Answer → Type 0)
    → AddsBy name s clock left reads what → (offset : ℕ) → name ≡ Err offset
    → P (Some (refusal_answer (BadName offset))) → P what
by_name (Ok n) s clock left reads what P is offset e p = absurd cc
by_name (Err at) s clock left reads what P is offset e p =
    let same : at ≡ offset = cc in
    subst P (ap (λ (n : ℕ). Some (refusal_answer (BadName n))) (sym same) ∙ sym is.1) p

reads_by : (name : Result NameParts ℕ) (s : State) (clock : Moment) (left : Option (List ℕ)) (reads : Bool)
    (what : Option Answer) (P : Type 0)
    → AddsBy name s clock left reads what → ((n : NameParts) → name ≡ Ok n → P) → IsTrue reads → P
reads_by (Ok n) s clock left reads what P is by t = by n refl
reads_by (Err at) s clock left reads what P is by t =
    let yes : reads ≡ true = t in
    let never : reads ≡ false = is.0 in
    absurd cc

unread_by : (name : Result NameParts ℕ) (s : State) (clock : Moment) (left : Option (List ℕ)) (reads : Bool)
    (what : Option Answer) (P : Type 0)
    → AddsBy name s clock left reads what → ((offset : ℕ) → name ≡ Err offset → P) → (IsTrue reads → ⊥) → P
unread_by (Ok n) s clock left reads what P is by unread = absurd (unread is.0)
unread_by (Err at) s clock left reads what P is by unread = by at refl

same_name : (a b : NameParts) → ◌≡◌ {A = Result NameParts ℕ} (Ok a) (Ok b) → a ≡ b
same_name a b e = cc

-- the keys of a name
pub added_name : (name : Result NameParts ℕ) (s : State) (clock : Moment) (left : Option (List ℕ)) (reads : Bool)
    (what : Option Answer) (P : Type 0)
    → AddsBy name s clock left reads what → (n : NameParts) → name ≡ Ok n
    → (AnswersTold (Answers (AddsKeys s n clock)) left what → P) → P
added_name (Err at) s clock left reads what P is n e by = absurd cc
added_name (Ok m) s clock left reads what P is n e by =
    by (subst (λ (x : NameParts). AnswersTold (Answers (AddsKeys s x clock)) left what) (same_name m n e) is.1)

pub answer_named : (name : Result NameParts ℕ) (s : State) (clock : Moment) (left : Option (List ℕ)) (n : NameParts)
    → name ≡ Ok n → (r : Result Bool SessionHalt)
    → OnOk r (HasAnswer (Answers (AddsKeys s n clock)) left) → OnOk r (HasAddition name s clock left)
answer_named name s clock left n e (Err halt) has = tt
answer_named name s clock left n e (Ok b) has = subst (λ (x : Result NameParts ℕ). HasAddition x s clock left) (sym e)
    (record { reads = true; what = has.what; is = (refl, has.is) })

-- what is none is refused
pub refusal_addition : (name : Result NameParts ℕ) (s : State) (clock : Moment) (left : Option (List ℕ)) (offset : ℕ)
    → name ≡ Err offset → HasAddition name s clock left
refusal_addition name s clock left offset e =
    subst (λ (x : Result NameParts ℕ). HasAddition x s clock left) (sym e)
    (record { reads = false; what = Some (refusal_answer (BadName offset)); is = (refl, refl) })

named_own : (word realm : List ℕ) (name : NameParts) → own_name_in word realm ≡ Ok name → IsOwnName realm name
named_own word realm name is = let read =
    name_of_reading word realm name is in record { is_name = read.1; own = read.2 }

pub names_own : (word realm : List ℕ) (name : Result NameParts ℕ) → name ≡ own_name_in word realm
    → IfOk name (IsOwnName realm)
names_own word realm (Ok n) is = named_own word realm n (sym is)
names_own word realm (Err at) is = tt

-- ---- runs

weaker_ok : (r : Result Bool SessionHalt) (P Q : Bool → Type 0) → ((b : Bool) → P b → Q b) → IfOk r P → IfOk r Q
weaker_ok (Ok b) P Q by p = by b p
weaker_ok (Err halt) P Q by p = tt

pub weaker_rests : (r : Result Bool SessionHalt) (P Q : Type 0) → (P → Q) → IfErr r (λ halt. SparesOutput halt → P)
    → IfErr r (λ halt. SparesOutput halt → Q)
weaker_rests (Ok b) P Q by p = tt
weaker_rests (Err halt) P Q by p = λ spares. by (p spares)

-- a keytab was written with no database
pub filtered_run : {now : View} {before after : Told} (what : Option Answer) (r : Result Bool SessionHalt)
    → HasWritten what before.taken after.taken r → after.draws ≡ before.draws
    → OnOk r (IsReadWhole before.left after.left) → HasRun (Filters what) now now before after r
filtered_run {now} {before} {after} what r wrote draws read = record {
  ended = λ end e. by what wrote.ended end e;
  stopped = on_err_weaker r (λ front. (front, kept now)) wrote.stopped;
  rests = weaker_rests r _ _ (λ nothing. (nothing, kept now)) wrote.rests;
  moments = keeps_like (kept now);
  read = λ reads. read;
}
  where
    by : (w : Option Answer)
        → ((a : Answer) → w ≡ Some a
        → IfOk r (λ refused. (after.taken ≡ after_told before.taken a.text) × (refused ≡ a.refused)))
        → (end : RunEnd) → keytab_end w before.taken (Same NoDraw) before.draws ≡ Some end
        → IfOk r (λ refused. RunEndsAs after.taken refused after.draws now now end)
    by None f end e = absurd cc
    by (Some a) f end e =
        subst (λ (x : RunEnd). IfOk r (λ refused. RunEndsAs after.taken refused after.draws now now x))
        (same_Some _ _ e)
        (weaker_ok r _ _
        (λ b both. record { out_is = both.0; refused_is = both.1; stands = kept now; draws_are = draws }) (f a refl))

-- over a database that was opened
pub added_run : {old mid : View} {before after : Told} (begin : Place) (made : List Place) (at : Seen) (reads : Bool)
    (what : Option Answer) (r : Result Bool SessionHalt)
    → at.place ≡ end_of begin made → ShowsAt at.place at.state → LeavesOnly old mid (OpensPart old begin made)
    → RecoversTo at.place mid → HasWritten what before.taken after.taken r
    → after.draws ≡ behind AMoment before.draws → (IsTrue reads → OnOk r (IsReadWhole before.left after.left))
    → HasRun (Adds begin made at reads what) old mid before after r
added_run {old} {mid} {before} {after} begin made at reads what r place shows opening stands wrote draws read = record {
  ended = λ end e. by what wrote.ended end e;
  stopped = on_err_weaker r (λ front. inl (front, stands)) wrote.stopped;
  rests =
      weaker_rests r _ _ (λ nothing. (nothing, part_of_opening old begin made at.place mid place stands)) wrote.rests;
  moments = opening;
  read = read;
}
  where
    by : (w : Option Answer)
        → ((a : Answer) → w ≡ Some a
        → IfOk r (λ refused. (after.taken ≡ after_told before.taken a.text) × (refused ≡ a.refused)))
        → (end : RunEnd) → keytab_end w before.taken (Shown at) (behind AMoment before.draws) ≡ Some end
        → IfOk r (λ refused. RunEndsAs after.taken refused after.draws old mid end)
    by None f end e = absurd cc
    by (Some a) f end e =
        subst (λ (x : RunEnd). IfOk r (λ refused. RunEndsAs after.taken refused after.draws old mid x))
        (same_Some _ _ e)
        (weaker_ok r _ _ (λ b both. record {
          out_is = both.0;
          refused_is = both.1;
          stands = record { place = stands; shows = shows };
          draws_are = draws;
        }) (f a refl))

-- ---- the ways that an opening goes

-- it opened
pub add_opened_run : {found : Result Found Refusal} {old mid : View} {before after : Told} {r : Result Bool SessionHalt}
    (word : List ℕ) (clock : Moment) (o : Opening) (primary : Opened)
    → ((d : Draws) → before.draws ≡ Some d → clock ≡ moment_in d)
    → adds_for word before.left found before.draws o → Opened_so found None clock (Ok primary) old mid
    → RecoversTo (place_of primary) mid
    → ((s : State) (reads : Bool) (what : Option Answer) → HasState primary s
    → AddsBy (own_name_in word primary.kept.realm) s clock before.left reads what
    → HasWritten what before.taken after.taken r)
    → after.draws ≡ behind AMoment before.draws
    → ((name : NameParts) → own_name_in word primary.kept.realm ≡ Ok name → OnOk r (IsReadWhole before.left after.left))
    → HasRun o old mid before after r
add_opened_run word clock (Refuses why drawn) primary gave adds answers stands wrote draws read =
    absurd (answers.only_refused why (adds.1 clock))
add_opened_run {found} {old} {mid} {before} {after} {r} word clock
    (Adds begin made at reads what) primary gave adds answers stands wrote draws read =
    let opens = adds.opens in
    let at_clock : clock ≡ moment_in opens.told = gave opens.told opens.draws_are in
    let place : place_of primary ≡ at.place = opened_place clock primary opens at_clock answers.opens in
    let state : HasState primary at.state =
    opened_state primary opens place (open_having clock (Ok primary) opens at_clock answers) in
    let comes : AddsBy (own_name_in word (place_of primary).realm) at.state clock before.left reads what =
    subst (λ (m : Moment). AddsBy (own_name_in word (place_of primary).realm) at.state m before.left reads what)
    (sym at_clock)
    (subst (λ (p : Place). AddsBy (own_name_in word p.realm) at.state (moment_in opens.told) before.left reads what)
    (sym place) adds.comes) in
    added_run begin made at reads what r opens.place_is opens.shows (opening_part clock opens at_clock answers.moments)
    (subst (λ (p : Place). RecoversTo p mid) place stands) (wrote at.state reads what state comes) draws
    (reads_by (own_name_in word (place_of primary).realm) at.state clock before.left reads what _ comes read)
add_opened_run word clock (Opens begin made at its) primary gave adds answers stands wrote draws read = absurd adds
add_opened_run word clock (Loads begin made at what) primary gave adds answers stands wrote draws read = absurd adds
add_opened_run word clock (AddsNew begin made at reads what) primary gave adds answers stands wrote draws read =
    absurd adds
add_opened_run word clock (Filters what) primary gave adds answers stands wrote draws read = absurd adds
add_opened_run word clock (Tells text drawn) primary gave adds answers stands wrote draws read = absurd adds
add_opened_run word clock (Makes spec) primary gave adds answers stands wrote draws read = absurd adds
add_opened_run word clock Ends primary gave adds answers stands wrote draws read = absurd adds

-- it was refused, and that was written
pub add_refused : {found : Result Found Refusal} {old now : View} {before after : Told} (word : List ℕ) (clock : Moment)
    (o : Opening) (refusal : Refusal)
    → ((d : Draws) → before.draws ≡ Some d → clock ≡ moment_in d)
    → adds_for word before.left found before.draws o → Opened_so found None clock (Err (stop.Refused refusal)) old now
    → after.taken ≡ after_told before.taken (refusal_line refusal) → after.draws ≡ behind AMoment before.draws
    → HasRun o old now before after (Ok true)
add_refused {old = old} {now = now} {before = before} {after = after} word clock
    (Refuses why drawn) refusal gave adds answers said_it draws =
    let cause : OpeningRefused _ _ clock why = adds.1 clock in
    let same : refusal ≡ why = answers.only_refused why cause in
    refused_run why drawn
    (said_it ∙ ap (λ (r : Refusal). after_told before.taken (refusal_line r)) same)
    (draws ∙ ap (λ (d : Drawn). behind d before.draws) (sym adds.0))
    (subst (λ (d : Drawn). Stays d old now) (sym adds.0)
    (record { stays = answers.stays refusal refl; leaves = answers.refusals why cause }))
add_refused word clock (Adds begin made at reads what) refusal gave adds answers said_it draws =
    absurd (open_having clock (Err (stop.Refused refusal)) adds.opens
    (gave adds.opens.told adds.opens.draws_are) answers)
add_refused word clock (Opens begin made at its) refusal gave adds answers said_it draws = absurd adds
add_refused word clock (Loads begin made at what) refusal gave adds answers said_it draws = absurd adds
add_refused word clock (AddsNew begin made at reads what) refusal gave adds answers said_it draws = absurd adds
add_refused word clock (Filters what) refusal gave adds answers said_it draws = absurd adds
add_refused word clock (Tells text drawn) refusal gave adds answers said_it draws = absurd adds
add_refused word clock (Makes spec) refusal gave adds answers said_it draws = absurd adds
add_refused word clock Ends refusal gave adds answers said_it draws = absurd adds

-- of which not all was written
pub add_cut : {found : Result Found Refusal} {old now : View} {before after : Told} (word : List ℕ) (clock : Moment)
    (o : Opening) (refusal : Refusal) (halt : SessionHalt)
    → ((d : Draws) → before.draws ≡ Some d → clock ≡ moment_in d)
    → adds_for word before.left found before.draws o → Opened_so found None clock (Err (stop.Refused refusal)) old now
    → SaidPart (refusal_line refusal) before.taken after.taken
    → (SparesOutput halt → after.taken ≡ before.taken)
    → HasRun o old now before after (Err halt)
add_cut {old = old} {now = now} {before = before} {after = after} word clock
    (Refuses why drawn) refusal halt gave adds answers part nothing =
    let cause : OpeningRefused _ _ clock why = adds.1 clock in
    let same : refusal ≡ why = answers.only_refused why cause in
    cut_refusal_run why drawn halt
    (subst (λ (r : Refusal). SaidPart (refusal_line r) before.taken after.taken) same part)
    (subst (λ (d : Drawn). IsSame d old now) (sym adds.0) (answers.refusals why cause))
    nothing
add_cut word clock (Adds begin made at reads what) refusal halt gave adds answers part nothing =
    absurd (open_having clock (Err (stop.Refused refusal)) adds.opens
    (gave adds.opens.told adds.opens.draws_are) answers)
add_cut word clock (Opens begin made at its) refusal halt gave adds answers part nothing = absurd adds
add_cut word clock (Loads begin made at what) refusal halt gave adds answers part nothing = absurd adds
add_cut word clock (AddsNew begin made at reads what) refusal halt gave adds answers part nothing = absurd adds
add_cut word clock (Filters what) refusal halt gave adds answers part nothing = absurd adds
add_cut word clock (Tells text drawn) refusal halt gave adds answers part nothing = absurd adds
add_cut word clock (Makes spec) refusal halt gave adds answers part nothing = absurd adds
add_cut word clock Ends refusal halt gave adds answers part nothing = absurd adds

-- it was stopped
pub add_halted : {found : Result Found Refusal} {old now : View} {before after : Told} (word : List ℕ) (clock : Moment)
    (o : Opening) (answer : Result Opened Stop) (halt : SessionHalt)
    → ((d : Draws) → before.draws ≡ Some d → clock ≡ moment_in d)
    → adds_for word before.left found before.draws o → Opened_so found None clock answer old now
    → after.taken ≡ before.taken
    → HasRun o old now before after (Err halt)
add_halted {old = old} {now = now} {before = before} {after = after} word clock
    (Refuses why drawn) answer halt gave adds answers nothing =
    let cause : OpeningRefused _ _ clock why = adds.1 clock in
    cut_refusal_run why drawn halt (said_nothing (refusal_line why) before.taken after.taken nothing)
    (subst (λ (d : Drawn). IsSame d old now) (sym adds.0) (answers.refusals why cause))
    (λ _. nothing)
add_halted word clock (Adds begin made at reads what) answer halt gave adds answers nothing =
    let run = opening_part clock adds.opens (gave adds.opens.told adds.opens.draws_are) answers.moments in
    record {
      ended = λ end e. tt;
      stopped = inr (nothing, all_at_end run);
      rests = λ spares. (nothing, all_at_end run);
      moments = run;
      read = λ reads. tt;
    }
add_halted word clock (Opens begin made at its) answer halt gave adds answers nothing = absurd adds
add_halted word clock (Loads begin made at what) answer halt gave adds answers nothing = absurd adds
add_halted word clock (AddsNew begin made at reads what) answer halt gave adds answers nothing = absurd adds
add_halted word clock (Filters what) answer halt gave adds answers nothing = absurd adds
add_halted word clock (Tells text drawn) answer halt gave adds answers nothing = absurd adds
add_halted word clock (Makes spec) answer halt gave adds answers nothing = absurd adds
add_halted word clock Ends answer halt gave adds answers nothing = absurd adds

-- what does not read the input has refused the name
pub add_unread : {found : Result Found Refusal} {old mid : View} (word : List ℕ) (left : Option (List ℕ))
    (draws : Option Draws) (clock : Moment) (o : Opening) (primary : Opened) (P : Type 0)
    → ((d : Draws) → draws ≡ Some d → clock ≡ moment_in d)
    → adds_for word left found draws o → Opened_so found None clock (Ok primary) old mid
    → (ReadsInput o → ⊥) → ((offset : ℕ) → own_name_in word primary.kept.realm ≡ Err offset → P) → P
add_unread word left draws clock (Refuses why drawn) primary P gave adds answers unread by =
    absurd (answers.only_refused why (adds.1 clock))
add_unread word left draws clock (Adds begin made at reads what) primary P gave adds answers unread by =
    let opens = adds.opens in
    let place : place_of primary ≡ at.place =
    opened_place clock primary opens (gave opens.told opens.draws_are) answers.opens in
    unread_by (own_name_in word (place_of primary).realm) at.state (moment_in opens.told) left reads what P
    (subst (λ (p : Place). AddsBy (own_name_in word p.realm) at.state (moment_in opens.told) left reads what)
    (sym place) adds.comes) by unread
add_unread word left draws clock (Opens begin made at its) primary P gave adds answers unread by = absurd adds
add_unread word left draws clock (Loads begin made at what) primary P gave adds answers unread by = absurd adds
add_unread word left draws clock (AddsNew begin made at reads what) primary P gave adds answers unread by = absurd adds
add_unread word left draws clock (Filters what) primary P gave adds answers unread by = absurd adds
add_unread word left draws clock (Tells text drawn) primary P gave adds answers unread by = absurd adds
add_unread word left draws clock (Makes spec) primary P gave adds answers unread by = absurd adds
add_unread word left draws clock Ends primary P gave adds answers unread by = absurd adds

-- ---- there is an opening

pub refused_adding : (word : List ℕ) (left : Option (List ℕ)) (found : Result Found Refusal) (draws : Option Draws)
    (clock : Moment) (why : Refusal) → OpeningRefused found None clock why → HasAdding word left found draws
refused_adding word left found draws clock why refused =
    record { opening = Refuses why AMoment; is = (refl, λ other. refused_always found None clock other why refused) }

pub good_adding : (word : List ℕ) (left : Option (List ℕ)) (found : Result Found Refusal) (draws : Draws)
    (clock : Moment) (o : Opened) → clock ≡ moment_in draws → OpensTo found None clock o → (opened : IsOpened o)
    → HasAddition (own_name_in word o.kept.realm) opened.state clock left → HasAdding word left found (Some draws)
unfolding is_open
good_adding word left found draws clock o is to opened has = record {
  opening = Adds (place_found to.found_is) (places (resized None (moment_in draws) (place_found to.found_is)))
      (seen (place_of o) opened.state) has.reads has.what;
  is = record {
    opens = is_open None found draws clock o is to opened;
    comes =
        subst (λ (m : Moment). AddsBy (own_name_in word o.kept.realm) opened.state m left has.reads has.what) is has.is;
  };
}

-- ---- without a database

pub filters_run : {old now : View} {before after : Told} {r : Result Bool SessionHalt} (name : NameParts)
    (which : Which) (left : Option (List ℕ)) (o : Opening) → filters_for name which left o
    → ((what : Option Answer) → AnswersTold (Answers (Removes name which)) left what
    → HasRun (Filters what) old now before after r) → HasRun o old now before after r
filters_run name which left (Filters what) is by = by what is
filters_run name which left (Refuses why drawn) is by = absurd is
filters_run name which left (Opens begin made at its) is by = absurd is
filters_run name which left (Loads begin made at what) is by = absurd is
filters_run name which left (Adds begin made at reads what) is by = absurd is
filters_run name which left (AddsNew begin made at reads what) is by = absurd is
filters_run name which left (Tells text drawn) is by = absurd is
filters_run name which left (Makes spec) is by = absurd is
filters_run name which left Ends is by = absurd is

pub filters_read : (name : NameParts) (which : Which) (left : Option (List ℕ)) (o : Opening)
    → filters_for name which left o → ReadsInput o
filters_read name which left (Filters what) is = tt
filters_read name which left (Refuses why drawn) is = absurd is
filters_read name which left (Opens begin made at its) is = absurd is
filters_read name which left (Loads begin made at what) is = absurd is
filters_read name which left (Adds begin made at reads what) is = absurd is
filters_read name which left (AddsNew begin made at reads what) is = absurd is
filters_read name which left (Tells text drawn) is = absurd is
filters_read name which left (Makes spec) is = absurd is
filters_read name which left Ends is = absurd is

same_halt : (a b : SessionHalt) → ◌≡◌ {A = Result Bool SessionHalt} (Err a) (Err b) → a ≡ b
same_halt a b is = cc

-- neither a disk nor a source of random bytes fails
pub filter_no_draw : (r : Result Bool SessionHalt) → IfErr r IsFilterHalt → IfErr r (λ halt. halt ≢ session.DrawFault)
filter_no_draw (Ok b) halts = tt
filter_no_draw (Err halt) halts = λ is. subst IsFilterHalt is halts

-- no count of random bytes rose
pub no_draws : (n : ℕ) (r : Result Bool SessionHalt) → IfErr r (λ halt. halt ≢ session.DrawFault)
    → Counts n n (r ≡ Err session.DrawFault)
no_draws n (Ok b) not = record { later = omega arith; cause = λ is. absurd cc }
no_draws n (Err halt) not =
    record { later = omega arith; cause = λ is. absurd (not (same_halt halt session.DrawFault is)) }

pub filter_no_disk : {P : Type 0} (r : Result Bool SessionHalt) → IfErr r IsFilterHalt → r ≡ Err session.DiskFault → P
filter_no_disk r halts is = absurd (subst (λ (x : Result Bool SessionHalt). IfErr x IsFilterHalt) is halts)

-- ---- by the words

pub for_keytab : (left : Option (List ℕ)) (files : Files) (draws : Option Draws)
    (o : Opening) (found : Result Words Refusal) (asks : KeytabWords) → found ≡ Ok (words.Keytab asks)
    → IsOpening found left files draws o
    → keytab_for asks left (found_in files) draws o
unfolding IsOpening
for_keytab left files draws o found asks is opening =
    subst (λ (w : Result Words Refusal). IsOpening w left files draws o) is opening

pub keytab_has : {left : Option (List ℕ)} (files : Files) (draws : Option Draws) (found : Result Words Refusal)
    (asks : KeytabWords) → found ≡ Ok (words.Keytab asks) → HasKeytab asks left (found_in files) draws
    → HasOpening found left files draws
unfolding IsOpening
keytab_has {left} files draws found asks is has = subst (λ (w : Result Words Refusal). HasOpening w left files draws)
    (sym is) (record { opening = has.opening; is = has.is })
