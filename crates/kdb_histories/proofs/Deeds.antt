-- What an accepted change leads to is what the history makes of it.
use Rattle.std.proofs.Common.{◌≡◌, ℕ, Bool, true, false, Option, Some, None, refl}
use Rattle.std.specs.Prelude.{if◌then◌else◌}
use Rattle.kdb_histories.specs.Asks.{Ask, Commanded, RekeyedNow, Settles, Enters, at_clock, commanded}
use Rattle.kdb_histories.specs.Asks.{kept_rekeying, moved, moved_state, outcome, record_put, settled_as, state_by}
use Rattle.kdb_model.specs.Rekeying.{At, Rekeyed, Updated, Already, Gone, Refused, Changed, Work, active_at}
use Rattle.kdb_model.specs.Rekeying.{may_settle, other_record, other_version, rekey, settle, settled_by}
use Rattle.kdb_plain.specs.declared.states.State.{State}
use Rattle.princ_name.specs.Names.{NameParts, printed}
use Rattle.princ_record.specs.declared.princs.Princ.{Princ}
use Rattle.princ_rows.specs.Rows.{RowLists}
use Rattle.row_keys.specs.Lookups.{record_named}

moved_leads : (s : State) (made : Option Princ) (r : Rekeyed) → (moved s made r).kind ≡ Enters
    → (moved s made r).state ≡ moved_state s r
unfolding moved
moved_leads s (Some p) (Updated after) e = refl
moved_leads s None (Updated after) e = absurd cc
moved_leads s (Some p) Already e = refl
moved_leads s None Already e = refl
moved_leads s (Some p) Gone e = refl
moved_leads s None Gone e = refl
moved_leads s (Some p) (Refused why) e = refl
moved_leads s None (Refused why) e = refl

stored_leads : (s : State) (made : Princ) (r : Rekeyed) → (settled_as s (settled_by made r)).kind ≡ Enters
    → (settled_as s (settled_by made r)).state ≡ moved_state s r
unfolding settled_as settled_by
stored_leads s made (Updated after) e = refl
stored_leads s made Already e = refl
stored_leads s made Gone e = refl
stored_leads s made (Refused why) e = refl

judged_leads : (s : State) (found : Option Princ) (version : Option ℕ) (p : Princ) (r : Rekeyed) (may : Bool)
    → (settled_as s (if may then settled_by p r else Changed found version)).kind ≡ Enters
    → (settled_as s (if may then settled_by p r else Changed found version)).state ≡ moved_state s r
unfolding settled_as
judged_leads s found version p r true e = stored_leads s p r e
judged_leads s found version p r false e = absurd cc

settled_leads : (s : State) (name : NameParts) (at : At) (found : Option Princ) (work : Work)
    → (settled_as s (settle s name at found work)).kind ≡ Enters
    → (settled_as s (settle s name at found work)).state ≡ moved_state s (rekey s name at)
unfolding settle settled_as
settled_leads s name at None work e = absurd cc
settled_leads s name at (Some stored) work e =
    judged_leads s (other_record stored work.taken) (other_version (active_at s at) work.taken) work.made
    (rekey s name at)
    (may_settle s.masters (active_at s at) stored work.taken) e

pub deed_leads : (rows : RowLists) (ask : Ask) (due : Bool) (s : State) → (outcome rows ask due s).kind ≡ Enters
    → (outcome rows ask due s).state ≡ state_by ask due s
unfolding outcome state_by commanded
deed_leads rows (Commanded call) due s e = refl
deed_leads rows (RekeyedNow name clock random) due s e =
    moved_leads s (record_put (kept_rekeying rows s name clock random)) (rekey s name (at_clock clock due)) e
deed_leads rows (Settles name clock work) due s e =
    settled_leads s name (at_clock clock due) (record_named (printed name) rows.princs) work e
