-- Settling, as the model has it.
use Rattle.std.proofs.Common.{◌≡◌, ℕ, Bool, true, false, Option, Some, None, refl, sym, ap, subst, ◌∙◌}
use Rattle.std.specs.Prelude.{if◌then◌else◌}
use Rattle.kdb_model.specs.Rekeying as model
use Rattle.kdb_model.specs.Rekeying.{At, Work, active_at, may_settle, other_record}
use Rattle.kdb_model.specs.Rekeying.{other_version, rekey, settle, settled_by}
use Rattle.kdb_plain.specs.declared.states.State.{State}
use Rattle.princ_name.specs.Names.{NameParts}
use Rattle.princ_record.specs.declared.princs.Princ.{Princ}
use Rattle.rekey_work.specs.Works.{as_modelled, settled_with}
use Rattle.rekey_work.specs.declared.works.Settled.TheVariants as settled

pub settled_as_modelled : (s : State) (name : NameParts) (at : At) (stored : Option Princ) (version : ℕ) (work : Work)
    → active_at s at ≡ Some version
    → settle s name at stored work ≡ as_modelled s name at (settled_with stored s.masters version work)
unfolding settle settled_with
settled_as_modelled s name at None version work is = refl
settled_as_modelled s name at (Some stored) version work is =
    ap (λ (v : Option ℕ). if may_settle s.masters v stored work.taken then settled_by work.made (rekey s name at)
    else model.Changed (other_record stored work.taken) (other_version v work.taken)) is
    ∙ by (may_settle s.masters (Some version) stored work.taken)
  where
    by : (test : Bool)
        → (if test then settled_by work.made (rekey s name at)
        else model.Changed (other_record stored work.taken) (other_version (Some version) work.taken))
        ≡ as_modelled s name at (if test then settled.Updated work.made
        else settled.Changed (other_record stored work.taken) (other_version (Some version) work.taken))
    by true = refl
    by false = refl
