-- What is opened of rows is what they show.
use Rattle.std.specs.Prelude.{ℕ, ◌≡◌, List, Some}
use Rattle.std.specs.List.{AllZip}
use Rattle.kdb_base.specs.Key.{Key}
use Rattle.kdb_base.specs.declared.versions.Activation.{Activation}
use Rattle.kdb_base.specs.declared.versions.Master.{Master}
use Rattle.kdb_plain.specs.declared.princs.PlainPrinc.{PlainPrinc}
use Rattle.master_keys.specs.First.{master_name}
use Rattle.princ_record.specs.declared.princs.Princ.{Princ}
use Rattle.row_keys.specs.Lookups.{record_named}
use Rattle.row_keys.specs.Shows.{ShowsChain, ShowsPrinc}

-- the record shows this principal and no other
abbrev pub IsAlone : List Master → Princ → PlainPrinc → Type 0
IsAlone masters p q = (history : Key) (other : PlainPrinc) → ShowsPrinc masters history p other → q ≡ other

-- the records show these principals and no others
abbrev pub AreAlone : List Master → List Princ → List PlainPrinc → Type 0
AreAlone masters princs plain = (history : Key) (others : List PlainPrinc)
    → AllZip (ShowsPrinc masters history) princs others → plain ≡ others

-- K/M's record shows these activations and no others
abbrev pub AreActivations : List ℕ → List Princ → List Activation → Type 0
AreActivations realm princs activations =
    (masters : List Master) (others : List Activation) (entry : Princ)
    → record_named (master_name realm) princs ≡ Some entry → ShowsChain masters others entry → activations ≡ others
