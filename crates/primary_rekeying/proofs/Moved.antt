-- One principal under another version of the master key: its row, the state with it, and what an ask comes to that
-- stores it.
use Rattle.std.proofs.Common.{◌≡◌, ◌≢◌, ◌<◌, ◌≤◌, ◌+◌, ℕ, Bool, true, false, ◌&&◌, List}
use Rattle.std.proofs.Common.{length, Option, Some, None, refl, sym, ap, subst, ◌∙◌, arith}
use Rattle.std.specs.Prelude.{find, is_some, nat_lt, if◌then◌else◌, option_and_then}
use Rattle.command_plans.proofs.Rooms.{may_replace}
use Rattle.kdb_base.specs.Key.{Key}
use Rattle.kdb_base.specs.Limits.{longest_row, most_rows}
use Rattle.kdb_base.specs.Moment.{Moment}
use Rattle.kdb_base.specs.Moments.{later_moment}
use Rattle.kdb_base.specs.declared.moments.Point.{Point}
use Rattle.kdb_base.specs.declared.outcomes.Refusal.{Refusal}
use Rattle.kdb_base.specs.declared.outcomes.Refusal.TheVariants.{RecordTooLarge, TimeEnd}
use Rattle.kdb_histories.proofs.Growing.{StaysValid}
use Rattle.kdb_histories.proofs.Times.{reset_since}
use Rattle.kdb_histories.specs.Asks.{Ask, Moved, NotMoved, Outcome, at_clock, clock_of, entered, kept, kept_op, outcome}
use Rattle.kdb_histories.specs.Calls.{HasTimeLeft}
use Rattle.kdb_histories.specs.Moves.{IsLeft}
use Rattle.kdb_histories.specs.Seen.{due_at, entry_point, is_due, is_due_of, moment_at, reset_point, seen}
use Rattle.kdb_model.specs.Calls.{is_last, next_moment, point_after}
use Rattle.kdb_model.specs.Laws.{IsMoment, IsPoint, at_point}
use Rattle.kdb_model.specs.Refusals.{etype_of, len_by, len_in, len_under}
use Rattle.kdb_model.specs.Rekeying as model
use Rattle.kdb_model.specs.Rekeying.{Rekeyed, Updated, Already, Gone, Refused}
use Rattle.kdb_model.specs.Rekeying.{active_at, rekey, rekey_to, under_version}
use Rattle.kdb_places.specs.Applying.{may_apply}
use Rattle.kdb_places.specs.Places.{Place, next_point, point_of}
use Rattle.kdb_plain.proofs.Valid.{put_valid}
use Rattle.kdb_plain.specs.Changes.{MayBePut, effect_on, name_of, put_princ}
use Rattle.kdb_plain.specs.Lengths.{in_64_bits, row_len}
use Rattle.kdb_plain.specs.States.{HasItsPolicy, IsValid, NeverRise, first_key, history_key}
use Rattle.kdb_plain.specs.States.{history_name, is_named, master_of, princ_named}
use Rattle.kdb_plain.specs.declared.changes.PlainOp.TheVariants as plain
use Rattle.kdb_plain.specs.declared.princs.PlainPrinc.{PlainPrinc}
use Rattle.kdb_plain.specs.declared.states.State.{State}
use Rattle.master_keys.specs.First.{master_name}
use Rattle.primary_core.proofs.Asked.{secs_behind}
use Rattle.primary_core.proofs.Decisions.{not_second, time_left}
use Rattle.primary_core.proofs.Performed.{ask_keeps, ask_puts}
use Rattle.primary_core.specs.Deciding.{ends_time}
use Rattle.primary_rekeying.specs.Moving.{IsInPlace, IsMoving, IsStored, MayStore}
use Rattle.primary_core.specs.Opened.{HasState, IsAnswered, IsOpened, Opened, place_of}
use Rattle.princ_rows.specs.declared.entries.Op.{Op}
use Rattle.princ_rows.specs.declared.entries.Op.TheVariants.{PutPrinc}
use Rattle.princ_name.specs.Names.{NameParts, printed}
use Rattle.princ_name.specs.Printed.{is_master}
use Rattle.princ_record.specs.Princs.{princ}
use Rattle.princ_record.specs.declared.princs.Princ.{Princ}
use Rattle.princ_rows.specs.Effects.{effect}
use Rattle.princ_rows.specs.Rows.{AreRows}
use Rattle.rekey_work.specs.declared.works.Settled.TheVariants as settled
use Rattle.row_keys.proofs.Effects.{change_shows_at, shows_at}
use Rattle.row_keys.proofs.Names.{same_mkvno}
use Rattle.row_keys.specs.Lookups.{record_named}
use Rattle.row_keys.specs.ShownChanges.{MayPut}
use Rattle.row_keys.specs.Shows.{ShowsUnder}
use Rattle.serving_versions.proofs.LatestKept.{active_listed}
use Rattle.serving_versions.proofs.MasterSets.{is_there}
use Rattle.serving_versions.proofs.Places.{named_holds, named_so, put_same}

-- ---- what is stored

-- the outcome where this record is stored, or refused
abbrev pub outcome_by : State → Princ → Rekeyed → Outcome
outcome_by s made (Updated after) = entered after (Moved (settled.Updated made))
outcome_by s made Already = kept s (Moved settled.Already)
outcome_by s made Gone = kept s (Moved settled.Gone)
outcome_by s made (Refused why) = kept s (NotMoved why)

-- the laws by which a record has its length
pub record RowLaws : Type 0 where
  pub valid : StaysValid
  pub row : (master history : Key) (p : Princ) (q : PlainPrinc) → ShowsUnder master history p q → p.chain ≡ None
      → length (princ p) ≡ row_len master.etype history.etype q

pub no_some : {A : Type 0} (x : Option A) (b : Bool) → is_some x ≡ b → b ≡ false → x ≡ None
no_some None b e none = refl
no_some (Some a) b e none = absurd (cc (e, none))

own_is_master : (realm : List ℕ) → is_master (master_name realm) ≡ true
unfolding is_master master_name
own_is_master realm = refl

lower : (a b : ℕ) → a < b → nat_lt a b ≡ true
lower a b lt = grind arith

not_lower : (a b : ℕ) → b ≤ a → nat_lt a b ≡ false
not_lower a b le = grind arith

module _ (laws : RowLaws) (o : Opened) (s : State) (has : HasState o s) (name : List ℕ) (clock : Moment) (made : Princ)
    (moment : IsMoment clock)
    (m : IsMoving o s name clock made) (f : IsInPlace o name made) where
  abbrev p : Place
  p = place_of o

  abbrev moved_princ : PlainPrinc
  moved_princ = under_version m.version m.plain

  abbrev op : Op
  op = PutPrinc made

  abbrev pub after : Bool → State
  after due = at_point (point_after s clock due) (put_princ moved_princ s)

  found_plain : find (is_named name) s.princs ≡ Some m.plain
  found_plain = is_there name s.princs m.plain m.named

  plain_name : m.plain.name ≡ name
  plain_name = named_so name_of name s.princs m.plain found_plain

  found_own : find (is_named m.plain.name) s.princs ≡ Some m.plain
  found_own = subst (λ (n : List ℕ). find (is_named n) s.princs ≡ Some m.plain) (sym plain_name) found_plain

  not_master : m.plain.name ≢ master_name s.realm
  not_master e =
      let yes : is_master name ≡ true = ap is_master (sym plain_name ∙ e) ∙ own_is_master s.realm in
      absurd (cc (yes, f.other))

  -- ---- its row

  made_mkvno : made.mkvno ≡ m.version
  made_mkvno = same_mkvno made moved_princ m.shows

  listed_key : master_of s.masters m.version ≡ Some m.shows.master
  listed_key = ap (master_of s.masters) (sym made_mkvno) ∙ m.shows.named

  no_chain : made.chain ≡ None
  no_chain = no_some made.chain (is_master made.name) f.spelled.facts.chain_there (ap is_master f.name_is ∙ f.other)

  row_is : len_in s moved_princ ≡ length (princ made)
  unfolding len_under
  row_is =
      ap (λ (x : Option Key). len_by (etype_of x) (etype_of (history_key s.realm s.princs)) moved_princ) listed_key
      ∙ ap (λ (x : Option Key). len_by (Some m.shows.master.etype) (etype_of x) moved_princ) m.history_is
      ∙ sym (laws.row m.shows.master m.history made moved_princ m.shows.under no_chain)

  -- ---- the state with it

  first_history : m.plain.name ≡ history_name s.realm → first_key m.plain.keys ≡ history_key s.realm s.princs
  unfolding history_key
  first_history e =
      let there : princ_named (history_name s.realm) s.princs ≡ Some m.plain =
      ap (λ (n : List ℕ). princ_named n s.princs) (sym e ∙ plain_name) ∙ m.named in
      sym (ap (option_and_then (λ (q : PlainPrinc). first_key q.keys)) there)

  may_put : MayPut s moved_princ
  may_put = record { other_than_master = not_master; same_history_key = first_history }

  one_key : m.plain.name ≡ history_name s.realm → length m.plain.keys ≡ 1
  one_key e =
      let h = has.shows.valid.history in
      let there : princ_named (history_name s.realm) s.princs ≡ Some m.plain =
      ap (λ (n : List ℕ). princ_named n s.princs) (sym e ∙ plain_name) ∙ m.named in
      let same : ◌≡◌ {A = Option PlainPrinc} (Some h.entry) (Some m.plain) = sym h.there ∙ there in
      let at : h.entry ≡ m.plain = cc in
      ap (λ (q : PlainPrinc). length q.keys) (sym at) ∙ h.one

  may_be_put : MayBePut s.realm moved_princ
  may_be_put = record {
    other_than_master = not_master;
    one_history_key = one_key;
    falling = named_holds name_of (λ (q : PlainPrinc). NeverRise q.keys) name s.princs m.plain found_plain
        has.shows.valid.falling;
  }

  room : length (put_princ moved_princ s).princs + length s.policies ≤ most_rows
  room =
      let few = has.shows.valid.few in
      let same : length (put_princ moved_princ s).princs ≡ length s.princs =
      put_same name_of s.princs moved_princ m.plain has.shows.valid.princ_order found_own in
      omega (arith, few, same)

  put_at : (time : Moment) → IsValid time s → IsValid time (put_princ moved_princ s)
  put_at time v =
      put_valid time s moved_princ v may_be_put
      (active_listed (point_of p).time s (later_moment s.point.time clock).secs m.version has.shows.valid m.active)
      (named_holds name_of (HasItsPolicy s.policies) name s.princs m.plain found_plain has.shows.valid.policies_there)
      room

  since : (due : Bool) → is_due op p ≡ due → (point_of p).time.secs ≤ (entry_point clock op p).time.secs
  since false e =
      subst (λ (x : Point). (point_of p).time.secs ≤ x.time.secs)
      (sym (ap (λ (b : Bool). if b then record {
        sno = 2;
        time = (reset_point clock p).time;
      } else next_point (moment_at clock p) p) e))
      (secs_behind (point_of p).time clock moment.usecs)
  since true e =
      subst (λ (x : Point). (point_of p).time.secs ≤ x.time.secs)
      (sym (ap (λ (b : Bool). if b then record {
        sno = 2;
        time = (reset_point clock p).time;
      } else next_point (moment_at clock p) p) e))
      (reset_since clock p moment)

  point_is : (due : Bool) → is_due op p ≡ due → point_after s clock due ≡ entry_point clock op p
  unfolding point_after
  point_is false e =
      ap (λ (x : Point). record { sno = x.sno + 1; time = later_moment x.time clock }) has.shows.at
      ∙ sym (ap (λ (b : Bool). if b then record {
        sno = 2;
        time = (reset_point clock p).time;
      } else next_point (moment_at clock p) p) e)
  point_is true e =
      ap (λ (x : Point). let made_at : Point =
      record { sno = 2; time = later_moment clock (next_moment x.time) } in made_at) has.shows.at
      ∙ sym (ap (λ (b : Bool). if b then record {
        sno = 2;
        time = (reset_point clock p).time;
      } else next_point (moment_at clock p) p) e)

  put_shows : (point : Point) → point ≡ entry_point clock op p
      → (point_of p).time.secs ≤ (entry_point clock op p).time.secs
      → IsLeft p.realm (entry_point clock op p) op p.rows (at_point point (put_princ moved_princ s))
  unfolding effect_on
  put_shows point is later =
      let at = (entry_point clock op p).time in
      let v = put_at at (laws.valid.later s (point_of p).time at later has.shows.valid) in
      record {
        same = has.shows.realm;
        at = is;
        shows = shows_at (effect (Some op) p.rows) point (put_princ moved_princ s)
            (change_shows_at p.rows s m.history op (plain.PutPrinc moved_princ) has.shows.shows m.history_is
            m.shows may_put);
        valid = laws.valid.point (put_princ moved_princ s) at point v;
      }

  pub left_after : (due : Bool) → is_due op p ≡ due → IsLeft p.realm (entry_point clock op p) op p.rows (after due)
  left_after due e = put_shows (point_after s clock due) (point_is due e) (since due e)

  -- ---- what the model says

  pub rekey_is : (who : NameParts) (due : Bool) → printed who ≡ name
      → rekey s who (at_clock clock due) ≡ model.moved s (at_clock clock due) moved_princ
  unfolding rekey rekey_to
  rekey_is who due is =
      ap (λ (n : List ℕ). model.rekey_found s (at_clock clock due) (princ_named n s.princs)) is
      ∙ ap (model.rekey_found s (at_clock clock due)) m.named
      ∙ ap (λ (v : Option ℕ). rekey_to s (at_clock clock due) v m.plain) m.active
      ∙ ap (λ (b : Bool). if b then Already else model.moved s (at_clock clock due) moved_princ) m.other

  large_is : (due : Bool) → longest_row < length (princ made)
      → model.moved s (at_clock clock due) moved_princ ≡ Refused (RecordTooLarge (in_64_bits (length (princ made))))
  unfolding model.moved
  large_is due lt =
      ap (λ (n : ℕ). if nat_lt longest_row n then Refused (RecordTooLarge (in_64_bits n))
      else if due && is_last s.point.time then Refused TimeEnd else Updated (after due)) row_is
      ∙ ap (λ (b : Bool). if b then Refused (RecordTooLarge (in_64_bits (length (princ made))))
      else if due && is_last s.point.time then Refused TimeEnd else Updated (after due))
      (lower longest_row (length (princ made)) lt)

  short_is : (due late : Bool) → (due && is_last s.point.time) ≡ late → length (princ made) ≤ longest_row
      → model.moved s (at_clock clock due) moved_princ ≡ (if late then Refused TimeEnd else Updated (after due))
  unfolding model.moved
  short_is due late e le =
      ap (λ (n : ℕ). if nat_lt longest_row n then Refused (RecordTooLarge (in_64_bits n))
      else if due && is_last s.point.time then Refused TimeEnd else Updated (after due)) row_is
      ∙ ap (λ (b : Bool). if b then Refused (RecordTooLarge (in_64_bits (length (princ made))))
      else if due && is_last s.point.time then Refused TimeEnd else Updated (after due))
      (not_lower longest_row (length (princ made)) le)
      ∙ ap (λ (b : Bool). if b then Refused TimeEnd else Updated (after due)) e

-- ---- the record may be stored

-- what is wanted of an open primary
pub record IsReady (o : Opened) (clock : Moment) : Type 0 where
  pub opened : IsOpened o
  pub clock_is : IsMoment clock
  pub point_is : IsPoint (point_of (place_of o))
  pub rows : AreRows o.kept.rows

applies : (o : Opened) (clock : Moment) (name : List ℕ) (made : Princ) → IsReady o clock → IsInPlace o name made
    → may_apply (PutPrinc made) o.kept.rows ≡ true
applies o clock name made ready f =
    may_replace made f.stored o.kept.rows ready.rows
    (subst (λ (n : List ℕ). record_named n o.kept.rows.princs ≡ Some f.stored) (sym f.name_is) f.there)

has_time : (o : Opened) (clock : Moment) (op : Op) → IsReady o clock → ends_time op (place_of o) ≡ false
    → is_due op (place_of o) ≡ true → HasTimeLeft (place_of o)
has_time o clock op ready e due =
    time_left (point_of (place_of o)).time ready.point_is.time
    (not_second (is_due op (place_of o)) (is_last (point_of (place_of o)).time) e due)

pub may_store : (laws : RowLaws) (o : Opened) (clock : Moment) (name : List ℕ) (made : Princ) → IsReady o clock
    → IsInPlace o name made
    → ((s : State) → HasState o s → IsMoving o s name clock made) → MayStore o clock made
may_store laws o clock name made ready f moves = record {
  spelled = f.spelled;
  may = λ short more. record {
    applied =
        record { spelled = record { fits = f.spelled; short = short }; applies = applies o clock name made ready f };
    left = has_time o clock (PutPrinc made) ready more;
    leads = λ s has. record {
      state = after laws o s has name clock made ready.clock_is (moves s has) f (is_due (PutPrinc made) (place_of o));
      is = left_after laws o s has name clock made ready.clock_is (moves s has) f
          (is_due (PutPrinc made) (place_of o)) refl;
      masters_are = has.masters_are;
    };
  };
}

-- ---- an ask that stores it

module _ (laws : RowLaws) (o : Opened) (ask : Ask) (name : List ℕ) (made : Princ) (ready : IsReady o (clock_of ask))
    (f : IsInPlace o name made)
    (moves : (s : State) → HasState o s → IsMoving o s name (clock_of ask) made)
    (comes : (s : State) (has : HasState o s) (due : Bool) → outcome o.kept.rows ask due s
    ≡ outcome_by s made
    (model.moved s (at_clock (clock_of ask) due) (under_version (moves s has).version (moves s has).plain)))
    (puts : (s : State) → HasState o s → kept_op o.kept.rows s ask ≡ Some (PutPrinc made)) where
  abbrev here : Place
  here = place_of o

  abbrev put : Op
  put = PutPrinc made

  abbrev due_of : State → Bool
  due_of s = due_at ask (seen here s)

  due_is : (s : State) → HasState o s → due_of s ≡ is_due put here
  due_is s has = ap (λ (x : Option Op). is_due_of x here) (puts s has)

  late_is : (s : State) (late : Bool) → HasState o s → ends_time put here ≡ late
      → (due_of s && is_last s.point.time) ≡ late
  late_is s late has e =
      ap (λ (b : Bool). b && is_last s.point.time) (due_is s has)
      ∙ ap (λ (x : Point). is_due put here && is_last x.time) has.shows.at ∙ e

  refused_as : (why : Refusal)
      → ((s : State) (has : HasState o s) → model.moved s (at_clock (clock_of ask) (due_of s))
      (under_version (moves s has).version (moves s has).plain) ≡ Refused why)
      → IsAnswered o ask (NotMoved why) None
  refused_as why refuses = record {
    performs =
        λ s has. ask_keeps here s ask (NotMoved why) (comes s has (due_of s) ∙ ap (outcome_by s made) (refuses s has));
    masters =
        λ s has. ap (λ (x : Outcome). x.state.masters) (comes s has (due_of s) ∙ ap (outcome_by s made) (refuses s has))
        ∙ has.masters_are;
  }

  stores : (s : State) (has : HasState o s) → length (princ made) ≤ longest_row → ends_time put here ≡ false
      → outcome o.kept.rows ask (due_of s) s
      ≡ entered (after laws o s has name (clock_of ask) made ready.clock_is (moves s has) f (due_of s))
      (Moved (settled.Updated made))
  stores s has short more =
      comes s has (due_of s)
      ∙ ap (outcome_by s made) (short_is laws o s has name (clock_of ask) made ready.clock_is (moves s has) f
      (due_of s) false (late_is s false has more) short)

  pub is_stored : IsStored o ask made
  is_stored = record {
    large = λ lt. refused_as (RecordTooLarge (in_64_bits (length (princ made))))
        (λ s has. large_is laws o s has name (clock_of ask) made ready.clock_is (moves s has) f (due_of s) lt);
    late = λ short e. refused_as TimeEnd
        (λ s has. short_is laws o s has name (clock_of ask) made ready.clock_is (moves s has) f (due_of s) true
        (late_is s true has e) short);
    stored = λ short more. record {
      performs = λ s has. ask_puts here s ask (Moved (settled.Updated made)) put
          (after laws o s has name (clock_of ask) made ready.clock_is (moves s has) f (due_of s))
          (stores s has short more) (puts s has)
          (left_after laws o s has name (clock_of ask) made ready.clock_is (moves s has) f (due_of s)
          (sym (due_is s has)))
          (record {
            newer = ready.opened.newer;
            fits = applies o (clock_of ask) name made ready f;
            left = has_time o (clock_of ask) put ready more;
          });
      masters = λ s has. ap (λ (x : Outcome). x.state.masters) (stores s has short more) ∙ has.masters_are;
    };
  }
