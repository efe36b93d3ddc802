-- What a call makes is a path from its place.
use Rattle.std.proofs.Common.{◌≡◌, ℕ, zero, suc, ◌+◌, ◌<◌, ◌≤◌, Bool, true, false, ◌&&◌, List}
use Rattle.std.proofs.Common.{[], ◌∷◌, Option, Some, None, refl, sym, ◌∙◌, ap, subst, arith}
use Rattle.std.specs.Prelude.{nat_eq, take, if◌then◌else◌}
use Rattle.iprop_truths.proofs.Lengths.{block_takes}
use Rattle.iprop_truths.specs.Blocks.{block_for, is_too_long}
use Rattle.kdb_base.specs.Moment.{Moment}
use Rattle.kdb_base.specs.Moments.{micros}
use Rattle.kdb_base.specs.declared.moments.Point.{Point}
use Rattle.kdb_histories.proofs.Changed.{made_anew, made_next, not_last, not_long, put_kind, put_op}
use Rattle.kdb_histories.proofs.Deeds.{deed_leads}
use Rattle.kdb_histories.proofs.Times.{change_not_before, reset_later, reset_since}
use Rattle.kdb_histories.specs.Asks.{Answer, Ask, Enters, Outcome, clock_of, kept_op, state_by}
use Rattle.kdb_histories.specs.Calls.{Call, Perform, Stash, ResetLog, Load, Open, CallMakes}
use Rattle.kdb_histories.specs.Calls.{IsFit, IsSize, Leads, MayBeFit, Performs, size_or}
use Rattle.kdb_histories.specs.Moves.{IsLeft, IsPath}
use Rattle.kdb_histories.specs.Seen.{Keep, Plan, Put, Write, due_at, entry_point, is_due, is_due_of, made_by}
use Rattle.kdb_histories.specs.Seen.{moment_at, outcome_at, plan_at, planned, reset_for, reset_point, seen, stash_of}
use Rattle.kdb_histories.specs.Sites.{clock_at}
use Rattle.kdb_histories.specs.Stages.{Anew, ShowsAt, Stage, fold, onto, stage, state_after}
use Rattle.kdb_model.specs.Laws.{IsMoment, at_point}
use Rattle.kdb_places.proofs.Points.{first_point}
use Rattle.kdb_places.specs.Places.{Place, base_marker, log_anew, next_point, no_point, point_of}
use Rattle.kdb_plain.specs.declared.states.State.{State}
use Rattle.princ_rows.specs.Entries.{entry_len}
use Rattle.princ_rows.specs.declared.entries.Op.{Op}
use Rattle.princ_rows.specs.Rows.{RowLists}

-- what these stages make of a state
abbrev pub state_on : State → List Stage → State
state_on s [] = s
state_on s (t ∷ made) = state_on (state_after t.deed (point_of t.place) s) made

left_as : (realm : List ℕ) (a b : Point) (op : Op) (rows : RowLists) (s t : State) → IsLeft realm a op rows s
    → a ≡ b → s ≡ t
    → IsLeft realm b op rows t
left_as realm a b op rows s t h e f =
    subst (λ (x : State). IsLeft realm b op rows x) f (subst (λ (x : Point). IsLeft realm x op rows s) e h)

-- ---- a change

module _ (p : Place) (before : State) (ask : Ask) (shows : ShowsAt p before) where
  abbrev Came : Outcome
  Came = outcome_at ask (seen p before)

  abbrev Clock : Moment
  Clock = clock_of ask

  -- the change was accepted
  record IsPut (op : Op) : Type 0 where
    kept : kept_op p.rows before ask ≡ Some op
    entered : Came.kind ≡ Enters

  put_is : (op : Op) (bytes : List ℕ) → Put op ≡ planned Came.kind (kept_op p.rows before ask) bytes → IsPut op
  put_is op bytes is = record {
    kept = put_op Came.kind (kept_op p.rows before ask) bytes op is;
    entered = put_kind Came.kind (kept_op p.rows before ask) bytes op is;
  }

  -- the state that it leads to, whether the log is begun anew for it or not
  leads_to : (op : Op) (due : Bool) → is_due op p ≡ due → IsPut op
      → Came.state ≡ state_by ask due (at_point (point_of p) before)
  leads_to op due is put =
      let own : before ≡ at_point (point_of p) before = ap (λ (x : Point). at_point x before) shows.at in
      let told : due_at ask (seen p before) ≡ due = ap (λ (x : Option Op). is_due_of x p) put.kept ∙ is in
      deed_leads p.rows ask (due_at ask (seen p before)) before put.entered
      ∙ ap (λ (x : Bool). state_by ask x before) told
      ∙ ap (state_by ask due) own

  next_path : (op : Op) → is_due op p ≡ false → IsFit p op → IsPut op
      → IsLeft p.realm (entry_point Clock op p) op p.rows Came.state
      → IsPath p before (made_next ask op p)
  next_path op is fit put left =
      let time = moment_at Clock p in
      let anew : Point = record { sno = 2; time = (reset_point Clock p).time } in
      let at : entry_point Clock op p ≡ next_point time p =
      ap (λ (x : Bool). if x then anew else next_point time p) is in
      let after = state_by ask false (at_point (point_of p) before) in (
        record {
          time = time;
          not_before = change_not_before Clock p;
          fits = fit.fits;
          newer = fit.newer;
          short = not_long (nat_eq (point_of p).sno 4294967295) (entry_len (Some op)) p.block is;
          serial = not_last (point_of p).sno (is_too_long op p) is;
          is = refl;
          leaves = left_as p.realm (entry_point Clock op p) (next_point time p) op p.rows Came.state after left at
              (leads_to op false is put);
        },
        tt,
      )

  anew_path : (op : Op) → is_due op p ≡ true → 0 < p.size → IsMoment Clock → IsFit p op → IsPut op
      → IsLeft p.realm (entry_point Clock op p) op p.rows Came.state → IsPath p before (made_anew ask op p)
  anew_path op is sized moment fit put left =
      let q = reset_for Clock op p in
      let base = reset_point Clock p in
      let at_base : point_of q ≡ base = first_point no_point (base_marker base) in
      let point : Point = record { sno = 2; time = base.time } in
      let at_entry : entry_point Clock op p ≡ point =
      ap (λ (x : Bool). if x then point else next_point (moment_at Clock p) p) is in
      let at_next : next_point base.time q ≡ point =
      ap (λ (x : Point). let y : Point = record { sno = x.sno + 1; time = base.time } in y) at_base in
      let at : entry_point Clock op p ≡ next_point base.time q = at_entry ∙ sym at_next in
      let after = state_by ask true (at_point (point_of p) before) in (
        record {
          time = base.time;
          later = reset_later Clock p;
          since = reset_since Clock p moment;
          size = p.size;
          some = sized;
          block = block_for op p;
          is = refl;
        },
        (
          record {
            time = base.time;
            not_before = subst (λ (x : Point). micros x.time ≤ micros base.time) (sym at_base) (omega arith);
            fits = fit.fits;
            newer = refl;
            short = block_takes op p;
            serial = λ last. let first : (point_of q).sno ≡ 1 =
                ap (λ (x : Point). x.sno) at_base in absurd (omega (arith, first, last));
            is = refl;
            leaves = left_as p.realm (entry_point Clock op p) (next_point base.time q) op p.rows Came.state after left
                at (leads_to op true is put);
          },
          tt,
        ),
      )

  changed_path : (op : Op) (due : Bool) → is_due op p ≡ due → 0 < p.size → IsMoment Clock → IsFit p op → IsPut op
      → IsLeft p.realm (entry_point Clock op p) op p.rows Came.state
      → IsPath p before (if due then made_anew ask op p else made_next ask op p)
  changed_path op true is sized moment fit put left = anew_path op is sized moment fit put left
  changed_path op false is sized moment fit put left = next_path op is fit put left

  plan_path : (plan : Plan) (bytes : List ℕ) → 0 < p.size → IsMoment Clock
      → plan ≡ planned Came.kind (kept_op p.rows before ask) bytes
      → Leads Clock p before Came.state plan → MayBeFit p plan → IsPath p before (made_by ask plan p)
  plan_path Keep bytes sized moment is leads fit = tt
  plan_path (Put op) bytes sized moment is leads fit =
      changed_path op (is_due op p) refl sized moment fit (put_is op bytes is) leads
  plan_path (Write own) bytes sized moment is leads fit = (record { bytes = own; is = refl }, tt)

  changed_state : (op : Op) (due : Bool) → is_due op p ≡ due → IsPut op
      → state_on before (if due then made_anew ask op p else made_next ask op p) ≡ Came.state
  changed_state op true is put = sym (leads_to op true is put)
  changed_state op false is put = sym (leads_to op false is put)

  plan_state : (plan : Plan) (bytes : List ℕ) → plan ≡ planned Came.kind (kept_op p.rows before ask) bytes
      → Leads Clock p before Came.state plan
      → state_on before (made_by ask plan p) ≡ Came.state
  plan_state Keep bytes is leads = sym leads
  plan_state (Put op) bytes is leads = changed_state op (is_due op p) refl (put_is op bytes is)
  plan_state (Write own) bytes is leads = sym leads

fold_onto : (made history : List Stage) → fold (onto made history) ≡ state_on (fold history) made
fold_onto [] history = refl
fold_onto (t ∷ made) history = fold_onto made (t ∷ history)

-- what a history comes to behind an ask is the ask's outcome
pub ask_state : (t : Stage) (older : List Stage) (ask : Ask) (answer : Answer) (made : List Stage)
    → ShowsAt t.place (fold (t ∷ older))
    → Performs t.place (fold (t ∷ older)) ask answer made
    → fold (onto made (t ∷ older)) ≡ (outcome_at ask (seen t.place (fold (t ∷ older)))).state
ask_state t older ask answer made shows h =
    let s = fold (t ∷ older) in
    let at = seen t.place s in
    fold_onto made (t ∷ older)
    ∙ ap (state_on s) h.is
    ∙ plan_state t.place s ask shows (plan_at ask at) (stash_of s (moment_at (clock_of ask) t.place)) refl h.leads

-- ---- a log begun anew

begun_path : (p : Place) (before : State) (clock : Moment) (size block : ℕ) → IsMoment clock → 0 < size
    → IsPath p before (stage (log_anew (reset_point clock p) size block p) Anew ∷ [])
begun_path p before clock size block moment some =
    let since = reset_since clock p moment in (
      record {
        time = (reset_point clock p).time;
        later = reset_later clock p;
        since = since;
        size = size;
        some = some;
        block = block;
        is = refl;
      },
      tt,
    )

size_some : (size : Option ℕ) (p : Place) → IsSize size → 0 < p.size → 0 < size_or size p
size_some None p some sized = sized
size_some (Some n) p some sized = some

opened_path : (p : Place) (before : State) (size : Option ℕ) (clock : Moment) (same : Bool) → IsMoment clock
    → 0 < size_or size p
    → IsPath p before (if same then [] else stage (log_anew (reset_point clock p) (size_or size p) p.block p) Anew ∷ [])
opened_path p before size clock true moment some = tt
opened_path p before size clock false moment some = begun_path p before clock (size_or size p) p.block moment some

-- ---- all calls

pub call_path : (p : Place) (before : State) (call : Call) (answer : Answer) (made : List Stage)
    → IsMoment (clock_at call) → ShowsAt p before
    → 0 < p.size
    → CallMakes p before call answer made → IsPath p before made
call_path p before (Perform ask) answer made moment shows sized h =
    let at = seen p before in
    let bytes = stash_of before (moment_at (clock_of ask) p) in
    subst (IsPath p before) (sym h.is)
    (plan_path p before ask shows (plan_at ask at) bytes sized moment refl h.leads h.fit)
call_path p before (Stash clock) answer made moment shows sized h =
    subst (IsPath p before) (sym h.is) (record { bytes = stash_of before (moment_at clock p); is = refl }, tt)
call_path p before (ResetLog clock) answer made moment shows sized h =
    subst (IsPath p before) (sym h.is) (begun_path p before clock p.size p.block moment sized)
call_path p before (Load rows clock) answer made moment shows sized h =
    subst (IsPath p before) (sym h.is) (
      record {
        time = (reset_point clock p).time;
        later = reset_later clock p;
        rows = rows;
        is = refl;
        realm = h.realm;
        at = h.at;
        shows = h.shows;
        valid = h.valid;
      },
      tt,
    )
call_path p before (Open size room clock) answer made moment shows sized h =
    let same = nat_eq p.format 2 && nat_eq (size_or size p) p.size in
    subst (IsPath p before) (sym h.is) (opened_path p before size clock same moment (size_some size p h.some sized))

-- a front of a path is one
pub path_front : (p : Place) (before : State) (made : List Stage) (part : ℕ) → IsPath p before made
    → IsPath p before (take part made)
path_front p before made zero h = tt
path_front p before [] (suc part) h = tt
path_front p before (t ∷ made) (suc part) h =
    (h.0, path_front t.place (state_after t.deed (point_of t.place) before) made part h.1)
