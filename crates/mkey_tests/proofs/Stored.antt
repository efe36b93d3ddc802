-- What becomes of work is a record that has a spelling, where one is to be stored.
use Rattle.std.proofs.Common.{◌≡◌, ℕ, Bool, true, false, List, Option, Some, None, sym, subst}
use Rattle.std.specs.Prelude.{if◌then◌else◌}
use Rattle.kdb_base.specs.declared.versions.Master.{Master}
use Rattle.kdb_model.specs.Rekeying.{Work, may_settle, other_record, other_version}
use Rattle.mkey_tests.specs.Made.{MayBeStored}
use Rattle.princ_record.specs.Princs.{IsPrinc}
use Rattle.princ_record.specs.declared.princs.Princ.{Princ}
use Rattle.rekey_work.specs.Works.{IsWork, settled_with}
use Rattle.rekey_work.specs.declared.works.Settled.{Settled}
use Rattle.rekey_work.specs.declared.works.Settled.TheVariants as settled

split : (made : Princ) (other : Settled) (test : Bool) → IsPrinc made → MayBeStored other
    → MayBeStored (if test then settled.Updated made else other)
split made other true spelled rest = spelled
split made other false spelled rest = rest

settled_may : (now : Option Princ) (masters : List Master) (active : ℕ) (work : Work) → IsWork work
    → MayBeStored (settled_with now masters active work)
unfolding settled_with
settled_may None masters active work w = tt
settled_may (Some stored) masters active work w =
    split work.made (settled.Changed (other_record stored work.taken) (other_version (Some active) work.taken))
    (may_settle masters (Some active) stored work.taken)
    w.spelled tt

pub may_be_stored : (now : Option Princ) (masters : List Master) (active : ℕ) (work : Work) (s : Settled) → IsWork work
    → s ≡ settled_with now masters active work → MayBeStored s
may_be_stored now masters active work s w same = subst MayBeStored (sym same) (settled_may now masters active work w)
