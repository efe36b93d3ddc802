-- What is told of a database, as runs.
use Rattle.std.proofs.Common.{◌≡◌, ◌∙◌, ℕ, suc, ◌-◌, ◌<◌, List, [], ◌∷◌, length, map}
use Rattle.std.proofs.Common.{get_or, refl, sym, ap, subst, true, false, arith}
use Rattle.std.specs.Prelude.{Option, Some, None, Result, Ok, Err, IfOk}
use Rattle.std.proofs.lemmas.List.{length-map}
use Rattle.std.proofs.lemmas.Option.{same_Some}
use Rattle.kadm_loading.specs.Halts.{SparesOutput}
use Rattle.session_base.specs.Draws.{Draws, moment_in}
use Rattle.session_base.specs.declared.halts.SessionHalt.{SessionHalt}
use Rattle.kadm_top.specs.Accounts.{account_text, first_held, log_text, report_at, texts_of, whole_text}
use Rattle.kadm_top.specs.Openings.{AMoment, HasOpening, IsOpening, IsToldBy, Opening, Refuses, Tells, behind}
use Rattle.kadm_top.specs.Run.{HasRun, RunEnd, RunEndsAs, StaysRead, Told, refusal_line}
use Rattle.kadm_top.specs.declared.words.Account.{Account}
use Rattle.kadm_top.specs.declared.words.Account.TheVariants.{Dump, Log, Report}
use Rattle.kadm_top.specs.declared.words.Words.{Words}
use Rattle.kadm_top.specs.declared.words.Words.TheVariants as words
use Rattle.kadm_top.proofs.Running.{cut_refusal_run, refused_run, said_nothing}
use Rattle.kdb_base.specs.Moment.{Moment}
use Rattle.kdb_base.specs.declared.moments.Point.{Point}
use Rattle.kdb_base.specs.declared.outcomes.Refusal.{Refusal}
use Rattle.kdb_disk.specs.Files.{Files}
use Rattle.kdb_disk.specs.Moments.{IsSettled, Keeps, LeavesOnly}
use Rattle.kdb_disk.specs.View.{View}
use Rattle.kdb_places.specs.Places.{Place, last_point, no_point}
use Rattle.kdb_ports.specs.Parts.{SaidPart}
use Rattle.kdb_ports.specs.Told.{after_told}
use Rattle.princ_rows.specs.declared.entries.Entry.{Entry}
use Rattle.store_files.specs.Found.{recovers}
use Rattle.store_files.specs.Kept.{Kept, place_kept}
use Rattle.store_files.specs.Recovery.{IsLike, RecoversTo}
use Rattle.ulog_text.specs.Ulogs.{ulog_text}
use Rattle.update_log.specs.Logs.{Journal, entry_of}

-- ---- the log's text

first_is : (entries : List Entry) (d : Entry) → 0 < length entries → (get_or entries 0 d).point ≡ first_held entries
first_is [] d some = absurd (omega (arith, some))
first_is (e ∷ entries) d some = refl

last_is : (point : Point) (entries : List Entry) (d : Entry) → 0 < length entries
    → (get_or entries (length entries - 1) d).point ≡ last_point point entries
unfolding last_point
last_is point [] d some = absurd (omega (arith, some))
last_is point (e ∷ []) d some = refl
last_is point (e ∷ (next ∷ entries)) d some =
    let there : length (e ∷ (next ∷ entries)) - 1 ≡ suc (length entries) = omega arith in
    let here : length entries ≡ length (next ∷ entries) - 1 = omega arith in
    ap (λ (i : ℕ). (get_or (e ∷ (next ∷ entries)) i d).point) there
    ∙ ap (λ (i : ℕ). (get_or (next ∷ entries) i d).point) here ∙ last_is e.point (next ∷ entries) d (omega arith)

no_entry : Entry
no_entry = record { point = no_point; op = None }

text_is : (k : Kept) (size block : ℕ) (text : List ℕ) → 0 < length k.log.held → size ≡ (place_kept k).size
    → block ≡ (place_kept k).block
    → text ≡ ulog_text (get_or (map entry_of k.log.held) 0 no_entry).point
    (get_or (map entry_of k.log.held) (length k.log.held - 1) no_entry).point size block (map entry_of k.log.held)
    → text ≡ log_text (place_kept k)
text_is k size block text some size_is block_is is =
    let held = map entry_of k.log.held in
    let long : length held ≡ length k.log.held = length-map k.log.held entry_of in
    let there : 0 < length held = omega (arith, long, some) in
    is
    ∙ ap (λ (p : Point). ulog_text p (get_or held (length k.log.held - 1) no_entry).point size block held)
    (first_is held no_entry there)
    ∙ ap (λ (n : ℕ). ulog_text (first_held held) (get_or held (n - 1) no_entry).point size block held) (sym long)
    ∙ ap (λ (p : Point). ulog_text (first_held held) p size block held) (last_is no_point held no_entry there)
    ∙ ap (λ (n : ℕ). ulog_text (first_held held) (last_point no_point held) n block held) size_is
    ∙ ap (λ (n : ℕ). ulog_text (first_held held) (last_point no_point held) (place_kept k).size n held) block_is

log_with : {E : Type 0} (k : Kept) (size block : ℕ) (r : Result (List ℕ) E) → 0 < length k.log.held
    → size ≡ (place_kept k).size → block ≡ (place_kept k).block
    → ((d : Entry) → IfOk r (λ text. text ≡ ulog_text (get_or (map entry_of k.log.held) 0 d).point
    (get_or (map entry_of k.log.held) (length k.log.held - 1) d).point size block (map entry_of k.log.held)))
    → IfOk r (λ text. text ≡ log_text (place_kept k))
log_with k size block (Ok text) some size_is block_is is = text_is k size block text some size_is block_is (is no_entry)
log_with k size block (Err halt) some size_is block_is is = tt

-- the log that a database has
pub log_is : {E : Type 0} (k : Kept) (log : Journal) (size block : ℕ) (r : Result (List ℕ) E) → log ≡ k.log
    → 0 < length log.held → size ≡ (place_kept k).size → block ≡ (place_kept k).block
    → ((d : Entry) → IfOk r (λ text. text ≡ ulog_text (get_or (map entry_of log.held) 0 d).point
    (get_or (map entry_of log.held) (length log.held - 1) d).point size block (map entry_of log.held)))
    → IfOk r (λ text. text ≡ log_text (place_kept k))
log_is k log size block r its some size_is block_is is =
    log_with k size block r (subst (λ (x : Journal). 0 < length x.held) its some) size_is block_is
    (λ d. subst (λ (x : Journal). IfOk r (λ text. text ≡ ulog_text (get_or (map entry_of x.held) 0 d).point
    (get_or (map entry_of x.held) (length x.held - 1) d).point size block (map entry_of x.held))) its (is d))

-- ---- the text at the moment that the clock gave

same_text : (f g : Place → List ℕ) → ◌≡◌ {A = Option (Place → List ℕ)} (Some f) (Some g) → (p : Place) → f p ≡ g p
same_text f g e p = ap (λ (h : Place → List ℕ). h p) (same_Some _ _ e)

pub text_then : (account : Account) (draws : Option Draws) (now : Moment)
    → ((told : Draws) → draws ≡ Some told → now ≡ moment_in told)
    → (text : Place → List ℕ) → texts_of account draws ≡ Some text → (p : Place)
    → account_text account now.secs p ≡ text p
text_then Dump draws now gave text is p = same_text whole_text text is p
text_then Log draws now gave text is p = same_text log_text text is p
text_then (Report kind) None now gave text is p = absurd cc
text_then (Report kind) (Some told) now gave text is p =
    ap (λ (m : Moment). report_at kind m.secs p) (gave told refl)
    ∙ same_text (report_at kind (moment_in told).secs) text is p

-- ---- what stays

-- of what was opened
pub opened_stays : (old now : View) (p : Place) → recovers old.seen ≡ Ok p → RecoversTo p now
    → LeavesOnly old now (IsLike old) → StaysRead old now
opened_stays old now p is stands leaves = record { stays = λ c image. stands c image ∙ sym is; leaves = leaves }

-- of what was refused
pub refused_stays : {old now : View} → Keeps old now → IsSettled now → LeavesOnly old now (IsLike old)
    → StaysRead old now
refused_stays keeps settled leaves = record {
  stays = λ c image. ap (λ (files : Files). recovers files) (settled.only c image ∙ keeps.seen);
  leaves = leaves;
}

-- ---- runs

by_text : (P : Opening → Type 0) (text : Option (Place → List ℕ)) (found : Result Place Refusal) (o : Opening)
    (p : Place) (said : List ℕ) → found ≡ Ok p → IsToldBy text found o
    → ((f : Place → List ℕ) → text ≡ Some f → said ≡ f p) → P (Tells said AMoment) → P o
by_text P text found o p said is opens says there =
    for text (subst (λ (r : Result Place Refusal). IsToldBy text r o) is opens) says
  where
    for : (t : Option (Place → List ℕ)) → IsToldBy t (Ok p) o → ((f : Place → List ℕ) → t ≡ Some f → said ≡ f p) → P o
    for None never other = absurd never
    for (Some f) e other = subst P (sym e) (subst (λ (xs : List ℕ). P (Tells xs AMoment)) (other f refl) there)

by_refusal : (P : Opening → Type 0) (text : Option (Place → List ℕ)) (found : Result Place Refusal) (o : Opening)
    (why : Refusal) → found ≡ Err why → IsToldBy text found o → P (Refuses why AMoment) → P o
by_refusal P text found o why is opens there =
    subst P (sym (subst (λ (r : Result Place Refusal). IsToldBy text r o) is opens)) there

-- it was told
pub told_run : {old now : View} {before after : Told} (text : Option (Place → List ℕ)) (found : Result Place Refusal)
    (o : Opening) (p : Place) (said : List ℕ) → found ≡ Ok p → IsToldBy text found o
    → ((f : Place → List ℕ) → text ≡ Some f → said ≡ f p)
    → after.taken ≡ after_told before.taken said → after.draws ≡ behind AMoment before.draws → StaysRead old now
    → HasRun o old now before after (Ok false)
told_run {old} {now} {before} {after} text found o p said is opens says said_it draws stays =
    by_text (λ (x : Opening). HasRun x old now before after (Ok false)) text found o p said is opens says (record {
      ended = λ end e. subst (λ (x : RunEnd). RunEndsAs after.taken false after.draws old now x) (same_Some _ _ e)
          (record { out_is = said_it; refused_is = refl; stands = stays; draws_are = draws });
      stopped = tt;
      rests = tt;
      moments = stays.leaves;
      read = λ no. absurd no;
    })

-- of which not all was written
pub cut_told_run : {old now : View} {before after : Told} (text : Option (Place → List ℕ))
    (found : Result Place Refusal) (o : Opening) (p : Place) (said : List ℕ) (halt : SessionHalt) → found ≡ Ok p
    → IsToldBy text found o → ((f : Place → List ℕ) → text ≡ Some f → said ≡ f p)
    → SaidPart said before.taken after.taken → LeavesOnly old now (IsLike old)
    → HasRun o old now before after (Err halt)
cut_told_run {old} {now} {before} {after} text found o p said halt is opens says part same =
    by_text (λ (x : Opening). HasRun x old now before after (Err halt)) text found o p said is opens says (record {
      ended = λ end e. tt;
      stopped = (part, same);
      rests = λ spares. (part, same);
      moments = same;
      read = λ no. absurd no;
    })

-- nothing stands there of which it could be told
pub untold_run : {old now : View} {before after : Told} (text : Option (Place → List ℕ)) (found : Result Place Refusal)
    (o : Opening) (why : Refusal) → found ≡ Err why → IsToldBy text found o
    → after.taken ≡ after_told before.taken (refusal_line why) → after.draws ≡ behind AMoment before.draws
    → StaysRead old now
    → HasRun o old now before after (Ok true)
untold_run {old} {now} {before} {after} text found o why is opens said_it draws stays =
    by_refusal (λ (x : Opening). HasRun x old now before after (Ok true)) text found o why is opens
    (refused_run why AMoment said_it draws stays)

pub cut_untold_run : {old now : View} {before after : Told} (text : Option (Place → List ℕ))
    (found : Result Place Refusal) (o : Opening) (why : Refusal) (halt : SessionHalt) → found ≡ Err why
    → IsToldBy text found o → SaidPart (refusal_line why) before.taken after.taken → LeavesOnly old now (IsLike old)
    → (SparesOutput halt → after.taken ≡ before.taken)
    → HasRun o old now before after (Err halt)
cut_untold_run {old} {now} {before} {after} text found o why halt is opens part same nothing =
    by_refusal (λ (x : Opening). HasRun x old now before after (Err halt)) text found o why is opens
    (cut_refusal_run why AMoment halt part same nothing)

-- the opening was stopped
pub halted_told_run : {old now : View} {before after : Told} (text : Option (Place → List ℕ))
    (found : Result Place Refusal) (o : Opening) (halt : SessionHalt) → IsToldBy text found o
    → after.taken ≡ before.taken → LeavesOnly old now (IsLike old) → HasRun o old now before after (Err halt)
halted_told_run text (Err why) o halt opens nothing same =
    cut_untold_run text (Err why) o why halt refl opens (said_nothing (refusal_line why) _ _ nothing) same
    (λ spares. nothing)
halted_told_run None (Ok p) o halt opens nothing same = absurd opens
halted_told_run (Some text) (Ok p) o halt opens nothing same =
    cut_told_run (Some text) (Ok p) o p (text p) halt refl opens (λ f e. same_text text f e p)
    (said_nothing (text p) _ _ nothing) same

-- ---- by the words

pub for_tell : (left : Option (List ℕ)) (files : Files) (draws : Option Draws)
    (o : Opening) (found : Result Words Refusal) (account : Account) → found ≡ Ok (words.Tell account)
    → IsOpening found left files draws o
    → IsToldBy (texts_of account draws) (recovers files) o
unfolding IsOpening
for_tell left files draws o found account is opening =
    subst (λ (w : Result Words Refusal). IsOpening w left files draws o) is opening

-- where the clock is told, there is a text
record HasText (text : Option (Place → List ℕ)) : Type 0 where
  its : Place → List ℕ
  is : text ≡ Some its

text_told : (account : Account) (draws : Draws) → HasText (texts_of account (Some draws))
text_told Dump draws = record { its = whole_text; is = refl }
text_told Log draws = record { its = log_text; is = refl }
text_told (Report kind) draws = record { its = report_at kind (moment_in draws).secs; is = refl }

record IsTold (text : Option (Place → List ℕ)) (found : Result Place Refusal) : Type 0 where
  opening : Opening
  is : IsToldBy text found opening

told_by : (text : Option (Place → List ℕ)) (found : Result Place Refusal) → HasText text → IsTold text found
told_by text (Err why) has = record { opening = Refuses why AMoment; is = refl }
told_by text (Ok p) has = record {
  opening = Tells (has.its p) AMoment;
  is = subst (λ (t : Option (Place → List ℕ)). IsToldBy t (Ok p) (Tells (has.its p) AMoment)) (sym has.is) refl;
}

pub tell_has : {left : Option (List ℕ)} (files : Files) (draws : Draws) (given : Option Draws)
    (found : Result Words Refusal) (account : Account) → given ≡ Some draws → found ≡ Ok (words.Tell account)
    → HasOpening found left files given
unfolding IsOpening
tell_has {left} files draws given found account told is =
    let there = told_by (texts_of account (Some draws)) (recovers files) (text_told account draws) in
    subst (λ (d : Option Draws). HasOpening found left files d) (sym told)
    (subst (λ (w : Result Words Refusal). HasOpening w left files (Some draws)) (sym is)
    (record { opening = there.opening; is = there.is }))
