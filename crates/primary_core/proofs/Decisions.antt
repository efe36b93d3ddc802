-- What a judged command comes to.
use Rattle.std.proofs.Common.{◌≡◌, ◌<◌, ◌^◌, ℕ, Bool, true, false, ◌&&◌, ◌||◌, List, [], Option, Some}
use Rattle.std.proofs.Common.{None, Result, Ok, Err, refl, sym, ap, subst, ◌∙◌, inl, inr, arith, eqb-true}
use Rattle.std.specs.Prelude.{IfErr, IfOk, length, nat_eq, if◌then◌else◌}
use Rattle.acl_text.specs.declared.rules.AclLine.{AclLine}
use Rattle.command_plans.specs.Given.{IsAnswer, IsApplied, IsChange}
use Rattle.command_plans.specs.declared.planned.Planned.{Planned}
use Rattle.command_plans.specs.declared.planned.Planned.TheVariants as planned
use Rattle.kadm_commands.specs.Commands.{IsCommand}
use Rattle.kadm_commands.specs.declared.commands.Command.{Command}
use Rattle.kadm_commands.specs.declared.replies.Reply.{Reply}
use Rattle.kadm_commands.specs.declared.replies.Reply.TheVariants.{Done, Refused}
use Rattle.performed_plans.specs.Ready.{is_planned}
use Rattle.kdb_base.specs.Moment.{Moment}
use Rattle.kdb_base.specs.Moments.{micros}
use Rattle.kdb_base.specs.declared.moments.Point.{Point}
use Rattle.kdb_base.specs.declared.outcomes.Halt.{Halt}
use Rattle.kdb_base.specs.declared.outcomes.Halt.TheVariants.{MemoryOut}
use Rattle.kdb_base.specs.declared.outcomes.Refusal.{Refusal}
use Rattle.kdb_base.specs.declared.outcomes.Refusal.TheVariants.{TimeEnd}
use Rattle.kdb_base.specs.declared.outcomes.Stop.{Stop}
use Rattle.kdb_base.specs.declared.outcomes.Stop.TheVariants as stop
use Rattle.kdb_histories.proofs.Changed.{not_last}
use Rattle.iprop_truths.specs.Blocks.{is_too_long}
use Rattle.kdb_histories.specs.Asks.{Ask, Commanded, Replied, commanded, outcome}
use Rattle.kdb_histories.specs.Calls.{HasTimeLeft, Performs}
use Rattle.kdb_histories.specs.Seen.{changed, due_at, entry_point, is_due, outcome_at, seen}
use Rattle.kdb_model.proofs.Stepping.{truth}
use Rattle.kdb_model.specs.Calls.{Call, call_of, is_last}
use Rattle.kdb_model.specs.Laws.{IsMoment, IsPoint, told}
use Rattle.kdb_model.specs.Steps.{step}
use Rattle.kdb_places.specs.Places.{Place, point_of}
use Rattle.kdb_plain.specs.declared.states.State.{State}
use Rattle.mkey_admin.specs.Plans.{IsMasterChange, is_master_command, reply_at}
use Rattle.mkey_admin.specs.declared.planned.MasterChange.{MasterChange}
use Rattle.mkey_admin.specs.declared.planned.MasterPlan.{MasterPlan}
use Rattle.mkey_admin.specs.declared.planned.MasterPlan.TheVariants as masters
use Rattle.mkey_admin.specs.declared.planned.Told.{Told}
use Rattle.mkey_admin.specs.declared.planned.Told.TheVariants.{Added, Used, Purged}
use Rattle.performed_plans.specs.Changes.{IsReady}
use Rattle.primary_core.proofs.Asking.{leads_on, stays}
use Rattle.primary_core.specs.Deciding.{Decides, change_decided, change_of, decided_as, decided_at}
use Rattle.primary_core.specs.Deciding.{masters_changed, masters_decided_as, point_told, reply_of, rows_changed}
use Rattle.primary_core.specs.Opened.{HasState, IsDecided, IsOpened, MayMake, Opened}
use Rattle.primary_core.specs.Opened.{command_ask, masters_behind, place_of}
use Rattle.primary_core.specs.declared.decided.Decided.{Decided}
use Rattle.primary_core.specs.declared.decided.Decided.TheVariants.{Answer, Change}
use Rattle.primary_core.specs.declared.decided.DecidedChange.{DecidedChange}
use Rattle.princ_rows.specs.declared.entries.Op.{Op}
use Rattle.princ_name.specs.Names.{NameParts}

-- what is known of the commands that rows alone decide
pub record RowPlanLaws : Type 0 where
  pub answers : (p : Place) (s : State) (client : NameParts) (access : Option (List AclLine)) (cmd : Command)
      (clock : Moment) (random : List ℕ) (reply : Reply)
      → is_planned cmd ≡ true → IsAnswer s (call_of client access cmd clock random false) reply
      → Performs p s (Commanded (call_of client access cmd clock random false)) (Replied reply) []
  pub changes : (p : Place) (s : State) (client : NameParts) (access : Option (List AclLine)) (cmd : Command)
      (clock : Moment) (random : List ℕ) (op : Op)
      → is_planned cmd ≡ true → IsReady p s cmd clock random op
      → IsChange p.rows s (call_of client access cmd clock random false) op
      → Performs p s (Commanded (call_of client access cmd clock random false))
      (Replied (Done (entry_point clock op p)))
      (changed (Commanded (call_of client access cmd clock random false)) op p)
  pub late : (p : Place) (s : State) (client : NameParts) (access : Option (List AclLine)) (cmd : Command)
      (clock : Moment) (random : List ℕ) (op : Op)
      → is_due op p ≡ true → is_last s.point.time ≡ true
      → IsChange p.rows s (call_of client access cmd clock random false) op
      → Performs p s (Commanded (call_of client access cmd clock random false)) (Replied (Refused TimeEnd)) []
  pub masters : (s : State) (call : Call) → is_planned call.command ≡ true → (step s call).state.masters ≡ s.masters

-- and of those of master keys
pub record MasterPlanLaws : Type 0 where
  pub answers : (p : Place) (s : State) (client : NameParts) (access : Option (List AclLine)) (cmd : Command)
      (clock : Moment) (random : List ℕ) (reply : Reply)
      → is_master_command cmd ≡ true → IsAnswer s (call_of client access cmd clock random false) reply
      → Performs p s (Commanded (call_of client access cmd clock random false)) (Replied reply) []
  pub changes : (p : Place) (s : State) (client : NameParts) (access : Option (List AclLine)) (cmd : Command)
      (clock : Moment) (random : List ℕ) (c : MasterChange)
      → is_master_command cmd ≡ true → IsReady p s cmd clock random c.op
      → IsMasterChange p.rows s (call_of client access cmd clock random false) c
      → Performs p s (Commanded (call_of client access cmd clock random false))
      (Replied (reply_at (entry_point clock c.op p) c.told))
      (changed (Commanded (call_of client access cmd clock random false)) c.op p)
  pub late : (p : Place) (s : State) (client : NameParts) (access : Option (List AclLine)) (cmd : Command)
      (clock : Moment) (random : List ℕ) (c : MasterChange)
      → is_master_command cmd ≡ true → is_due c.op p ≡ true → is_last s.point.time ≡ true
      → IsMasterChange p.rows s (call_of client access cmd clock random false) c
      → Performs p s (Commanded (call_of client access cmd clock random false)) (Replied (Refused TimeEnd)) []
  pub masters : (p : Place) (s : State) (client : NameParts) (access : Option (List AclLine)) (cmd : Command)
      (clock : Moment) (random : List ℕ) (c : MasterChange)
      → is_master_command cmd ≡ true → IsReady p s cmd clock random c.op
      → IsMasterChange p.rows s (call_of client access cmd clock random false) c
      → (outcome_at (Commanded (call_of client access cmd clock random false)) (seen p s)).state.masters ≡ c.masters

-- ---- numbers

pub both : (a b : Bool) → (a && b) ≡ true → (a ≡ true) × (b ≡ true)
both true true e = (refl, refl)
both true false e = absurd cc
both false b e = absurd cc

pub not_second : (a b : Bool) → (a && b) ≡ false → a ≡ true → b ≡ false
not_second true b e is = e
not_second false b e is = absurd cc

secs_below : (n : ℕ) → n < 2 ^ 32 → nat_eq n 4294967295 ≡ false → n < 4294967295
secs_below n lt e = grind arith

usecs_below : (n : ℕ) → n < 1000000 → nat_eq n 999999 ≡ false → n < 999999
usecs_below n lt e = grind arith

-- a moment that is not the last one comes before it
pub time_left : (m : Moment) → IsMoment m → is_last m ≡ false → micros m < 4294967295999999
time_left m is e = elim (truth (nat_eq m.secs 4294967295)) [
  | inl f ↦
      let usecs = usecs_below m.usecs is.usecs (not_second (nat_eq m.secs 4294967295) (nat_eq m.usecs 999999) e f) in
      let secs = eqb-true m.secs 4294967295 f in
      omega (arith, usecs, secs)
  | inr f ↦
      let usecs = is.usecs in
      let secs = secs_below m.secs is.secs f in
      omega (arith, usecs, secs)
]

serial_left : (n : ℕ) (long : Bool) → n < 2 ^ 32 → (nat_eq n 4294967295 || long) ≡ false → n < 4294967295
serial_left n long lt e = elim (truth (nat_eq n 4294967295)) [
  | inl f ↦ absurd (not_last n long e (eqb-true n 4294967295 f))
  | inr f ↦ secs_below n lt f
]

-- ---- what is told of a change

-- the answer to a change of master keys tells its point
told_point : (x : Point) (told : Told) → point_told (reply_at x told) ≡ Some x
told_point x (Added version) = refl
told_point x (Used version secs) = refl
told_point x (Purged rows) = refl

same_change : (a b : DecidedChange) (x y : Reply) → Change a x ≡ Change b y → a ≡ b
same_change a b x y e = cc

same_reply : (a b : DecidedChange) (x y : Reply) → Change a x ≡ Change b y → x ≡ y
same_reply a b x y e = cc

-- ---- a command that is asked of an open primary

pub record IsAsked (o : Opened) (cmd : Command) (clock : Moment) (random : List ℕ) : Type 0 where
  pub opened : IsOpened o
  pub command : IsCommand o.kept.realm cmd
  pub random_is : length random ≡ 2048
  pub clock_is : IsMoment clock
  pub point_is : IsPoint (point_of (place_of o))

module _ (o : Opened) (client : NameParts) (access : Option (List AclLine)) (cmd : Command) (clock : Moment)
    (random : List ℕ) where
  abbrev p : Place
  p = place_of o

  abbrev call : Call
  call = call_of client access cmd clock random false

  abbrev ask : Ask
  ask = Commanded call

  -- whether no later time is left for the log that a change is to begin anew
  abbrev ends : Op → Bool
  ends op = is_due op p && is_last (point_of p).time

  -- ---- nothing is made

  makes_nothing : (reply : Reply) → ((s : State) → HasState o s → Performs p s ask (Replied reply) [])
      → Decides o ask clock (Answer reply)
  makes_nothing reply performs = record {
    is = record {
      performs = performs;
      masters =
          λ s has. ap (λ (x : State). x.masters) (stays p s ask (Replied reply) (performs s has)) ∙ has.masters_are;
    };
    may = λ change told e. absurd cc;
    point = λ change told e. absurd cc;
  }

  -- where the judge stopped
  pub stopped : (s : Stop) (r : Result Decided Halt)
      → ((why : Refusal) → s ≡ stop.Refused why → r ≡ Ok (Answer (Refused why)))
      → ((halt : Halt) → s ≡ stop.Halt halt → r ≡ Err halt)
      → ((x : State) (why : Refusal) → HasState o x → s ≡ stop.Refused why
      → Performs p x ask (Replied (Refused why)) [])
      → IfOk r (λ d. Decides o ask clock d)
  stopped (stop.Refused why) r answers halts judged =
      subst (λ (x : Result Decided Halt). IfOk x (λ d. Decides o ask clock d)) (sym (answers why refl))
      (makes_nothing (Refused why) (λ x has. judged x why has refl))
  stopped (stop.Halt halt) r answers halts judged =
      subst (λ (x : Result Decided Halt). IfOk x (λ d. Decides o ask clock d)) (sym (halts halt refl)) tt

  -- ---- the change may be made

  module _ (asked : IsAsked o cmd clock random) where
    has_left : (op : Op) → ends op ≡ false → is_due op p ≡ true → HasTimeLeft p
    has_left op e due =
        time_left (point_of p).time asked.point_is.time (not_second (is_due op p) (is_last (point_of p).time) e due)

    ready : (s : State) (op : Op) → HasState o s → IsApplied o.kept.rows op → ends op ≡ false
        → IsReady p s cmd clock random op
    ready s op has applied e = record {
      shows = has.shows;
      point = subst IsPoint (sym has.shows.at) asked.point_is;
      command = subst (λ (x : List ℕ). IsCommand x cmd) (sym has.shows.realm) asked.command;
      clock_is = asked.clock_is;
      random_is = asked.random_is;
      newer = asked.opened.newer;
      fits = applied.applies;
      more = λ (due : is_due op p ≡ true).
          ap (λ (x : Point). is_last x.time) has.shows.at ∙ not_second (is_due op p) (is_last (point_of p).time) e due;
      left = has_left op e;
      serial = λ (next : is_due op p ≡ false).
          subst (λ (x : Point). x.sno < 4294967295) (sym has.shows.at)
          (serial_left (point_of p).sno (is_too_long op p) asked.point_is.sno next);
    }

    -- ---- a change that was weighed

    -- It is performed of each state that the rows show, and told at its point where a time is left for it.
    record IsWeighed (change : DecidedChange) (told : Point → Reply) : Type 0 where
      applied : IsApplied o.kept.rows change.op
      late : ends change.op ≡ true → (s : State) → HasState o s → Performs p s ask (Replied (Refused TimeEnd)) []
      made : ends change.op ≡ false → (s : State) → HasState o s
          → Performs p s ask (Replied (told (entry_point clock change.op p))) (changed ask change.op p)
      masters : ends change.op ≡ false → (s : State) → HasState o s
          → (outcome_at ask (seen p s)).state.masters ≡ masters_behind o change.masters
      point : (x : Point) → point_told (told x) ≡ Some x

    may_make : (change : DecidedChange) (told : Point → Reply) → IsWeighed change told → ends change.op ≡ false
        → MayMake o clock change
    may_make change told w e = record {
      applied = w.applied;
      left = has_left change.op e;
      leads = λ s has. record {
        state = (outcome_at ask (seen p s)).state;
        is = leads_on p s ask (Replied (told (entry_point clock change.op p))) change.op (w.made e s has);
        masters_are = w.masters e s has;
      };
    }

    makes_one : (change : DecidedChange) (told : Point → Reply) → IsWeighed change told → ends change.op ≡ false
        → Decides o ask clock (Change change (told (entry_point clock change.op p)))
    makes_one change told w e =
        let at = entry_point clock change.op p in
        record {
          is = record { performs = w.made e; masters = w.masters e };
          may = λ made reply same.
              subst (MayMake o clock) (same_change change made (told at) reply same) (may_make change told w e);
          point = λ made reply same.
              sym (ap point_told (same_reply change made (told at) reply same))
              ∙ (w.point at ∙ ap (λ (x : DecidedChange). let r : Option Point = Some (entry_point clock x.op p) in r)
              (same_change change made (told at) reply same));
        }

    decided_by : (change : DecidedChange) (told : Point → Reply) (late : Bool) → ends change.op ≡ late
        → IsWeighed change told
        → (d : Decided) → d ≡ decided_at change told (if late then None else Some (entry_point clock change.op p))
        → Decides o ask clock d
    decided_by change told true e w d is =
        subst (Decides o ask clock) (sym is) (makes_nothing (Refused TimeEnd) (w.late e))
    decided_by change told false e w d is = subst (Decides o ask clock) (sym is) (makes_one change told w e)

    decided : (change : DecidedChange) (told : Point → Reply) → IsWeighed change told → (d : Decided)
        → d ≡ change_decided clock change told p
        → Decides o ask clock d
    decided change told w d is = decided_by change told (ends change.op) refl w d is

    is_last_of : (s : State) → HasState o s → is_last (point_of p).time ≡ true → is_last s.point.time ≡ true
    is_last_of s has e = ap (λ (x : Point). is_last x.time) has.shows.at ∙ e

    -- ---- a command that rows alone decide

    -- what was planned is of every state that the rows show
    pub record IsJudged (plan : Planned) : Type 0 where
      pub answer : (s : State) (reply : Reply) → HasState o s → plan ≡ planned.Answer reply → IsAnswer s call reply
      pub change : (s : State) (op : Op) → HasState o s → plan ≡ planned.Change op → IsChange o.kept.rows s call op
      pub applies : (op : Op) → plan ≡ planned.Change op → IsApplied o.kept.rows op

    module _ (laws : RowPlanLaws) (planned_is : is_planned cmd ≡ true) where
      kept_masters : (s : State) → (outcome_at ask (seen p s)).state.masters ≡ s.masters
      unfolding outcome commanded
      kept_masters s = laws.masters s (told (due_at ask (seen p s)) call) planned_is

      rows_weighed : (op : Op) → IsApplied o.kept.rows op
          → ((s : State) → HasState o s → IsChange o.kept.rows s call op) → IsWeighed (rows_changed op) Done
      rows_weighed op applied judged = record {
        applied = applied;
        late = λ e s has.
            let two = both (is_due op p) (is_last (point_of p).time) e in
            laws.late p s client access cmd clock random op two.0 (is_last_of s has two.1) (judged s has);
        made = λ e s has.
            laws.changes p s client access cmd clock random op planned_is (ready s op has applied e) (judged s has);
        masters = λ e s has. kept_masters s ∙ has.masters_are;
        point = λ x. refl;
      }

      pub rows_decided : (plan : Planned) → IsJudged plan → (d : Decided) → d ≡ decided_as clock plan p
          → Decides o ask clock d
      rows_decided (planned.Answer reply) judged d is =
          subst (Decides o ask clock) (sym is)
          (makes_nothing reply
          (λ s has. laws.answers p s client access cmd clock random reply planned_is (judged.answer s reply has refl)))
      rows_decided (planned.Change op) judged d is =
          decided (rows_changed op) Done
          (rows_weighed op (judged.applies op refl) (λ s has. judged.change s op has refl)) d is

    -- ---- a command of master keys

    pub record AreJudged (plan : MasterPlan) : Type 0 where
      pub answer : (s : State) (reply : Reply) → HasState o s → plan ≡ masters.Answer reply → IsAnswer s call reply
      pub change : (s : State) (c : MasterChange) → HasState o s → plan ≡ masters.Change c
          → IsMasterChange o.kept.rows s call c
      pub applies : (c : MasterChange) → plan ≡ masters.Change c → IsApplied o.kept.rows c.op

    module _ (laws : MasterPlanLaws) (masters_is : is_master_command cmd ≡ true) where
      masters_weighed : (c : MasterChange) → IsApplied o.kept.rows c.op
          → ((s : State) → HasState o s → IsMasterChange o.kept.rows s call c)
          → IsWeighed (masters_changed c) (λ x. reply_at x c.told)
      masters_weighed c applied judged = record {
        applied = applied;
        late = λ e s has.
            let two = both (is_due c.op p) (is_last (point_of p).time) e in
            laws.late p s client access cmd clock random c masters_is two.0 (is_last_of s has two.1) (judged s has);
        made = λ e s has.
            laws.changes p s client access cmd clock random c masters_is (ready s c.op has applied e) (judged s has);
        masters = λ e s has.
            laws.masters p s client access cmd clock random c masters_is (ready s c.op has applied e) (judged s has);
        point = λ x. told_point x c.told;
      }

      pub masters_decided : (plan : MasterPlan) → AreJudged plan → (d : Decided) → d ≡ masters_decided_as clock plan p
          → Decides o ask clock d
      masters_decided (masters.Answer reply) judged d is =
          subst (Decides o ask clock) (sym is)
          (makes_nothing reply
          (λ s has. laws.answers p s client access cmd clock random reply masters_is (judged.answer s reply has refl)))
      masters_decided (masters.Change c) judged d is =
          decided (masters_changed c) (λ x. reply_at x c.told)
          (masters_weighed c (judged.applies c refl) (λ s has. judged.change s c has refl)) d is

-- ---- of a result

pub err_halted : (s : Stop) (r : Result Decided Halt)
    → ((why : Refusal) → s ≡ stop.Refused why → r ≡ Ok (Answer (Refused why)))
    → ((halt : Halt) → s ≡ stop.Halt halt → r ≡ Err halt) → ((halt : Halt) → s ≡ stop.Halt halt → halt ≡ MemoryOut)
    → IfErr r (λ h. h ≡ MemoryOut)
err_halted (stop.Refused why) r answers halts wants =
    subst (λ (x : Result Decided Halt). IfErr x (λ h. h ≡ MemoryOut)) (sym (answers why refl)) tt
err_halted (stop.Halt halt) r answers halts wants =
    subst (λ (x : Result Decided Halt). IfErr x (λ h. h ≡ MemoryOut)) (sym (halts halt refl)) (wants halt refl)

-- the command, as the code has it
pub of_command : (o : Opened) (client : NameParts) (access : Option (List AclLine)) (a b : Command) (clock : Moment)
    (random : List ℕ) (r : Result Decided Halt) → a ≡ b
    → IfOk r (λ d. Decides o (command_ask client access a clock random) clock d)
    → IfOk r (λ d. Decides o (command_ask client access b clock random) clock d)
of_command o client access a b clock random r e known =
    subst (λ (x : Command). IfOk r (λ d. Decides o (command_ask client access x clock random) clock d)) e known

module _ (o : Opened) (ask : Ask) (clock : Moment) where
  pub is_decided : (r : Result Decided Halt) → IfOk r (λ d. Decides o ask clock d)
      → IfOk r (λ d. IsDecided o ask (reply_of d) (change_of d))
  is_decided (Ok d) known = known.is
  is_decided (Err halt) known = tt

  known_at : (r : Result Decided Halt) (d : Decided) → IfOk r (λ x. Decides o ask clock x) → r ≡ Ok d
      → Decides o ask clock d
  known_at r d known is = subst (λ (x : Result Decided Halt). IfOk x (λ y. Decides o ask clock y)) is known

  pub may_be_made : (r : Result Decided Halt) → IfOk r (λ d. Decides o ask clock d)
      → (change : DecidedChange) (reply : Reply) → r ≡ Ok (Change change reply)
      → MayMake o clock change
  may_be_made r known change reply is = (known_at r (Change change reply) known is).may change reply refl

  pub is_pointed : (r : Result Decided Halt) → IfOk r (λ d. Decides o ask clock d)
      → (change : DecidedChange) (reply : Reply) → r ≡ Ok (Change change reply)
      → point_told reply ≡ Some (entry_point clock change.op (place_of o))
  is_pointed r known change reply is = (known_at r (Change change reply) known is).point change reply refl
