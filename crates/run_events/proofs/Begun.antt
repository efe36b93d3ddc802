-- What the opening of a run says of the files, by its words.
use Rattle.std.proofs.Common.{ℕ, ◌≡◌, Bool, List, Option, Some, None, Result, Ok, Err, refl, sym, ap, subst}
use Rattle.first_rows.specs.Parts.{IsSpec, SpecParts}
use Rattle.kadm_top.specs.Accounts.{texts_of}
use Rattle.kadm_top.specs.Openings.{Adds, AddsNew, Ends, Filters, IsAddingNew, IsLoading, IsOpen, IsOpening}
use Rattle.kadm_top.specs.Openings.{IsToldBy, Loads, Makes, Opening, Opens, Refuses, Renewing, Tells, adds_for}
use Rattle.kadm_top.specs.Openings.{adds_new_for, create_of, destroy_of, keytab_for, loads_for, opens_for}
use Rattle.kadm_top.specs.declared.asking.Asking.{Asking}
use Rattle.kadm_top.specs.declared.asking.Asking.TheVariants as asking
use Rattle.kadm_top.specs.declared.words.Words.{Words}
use Rattle.kadm_top.specs.declared.words.Words.TheVariants as words
use Rattle.kdb_base.specs.declared.keys.Etype.{Etype}
use Rattle.kdb_base.specs.declared.outcomes.Refusal.{Refusal}
use Rattle.kdb_base.specs.declared.outcomes.Refusal.TheVariants.{NotADatabase}
use Rattle.kdb_control.specs.Force.{in_force}
use Rattle.kdb_control.specs.declared.force.Force.{Force}
use Rattle.kdb_control.specs.declared.force.Force.TheVariants.{Nothing, Is, Broken}
use Rattle.kdb_disk.specs.Files.{Files}
use Rattle.kdb_histories.specs.Calls.{IsSize}
use Rattle.kdb_histories.specs.Seen.{Seen}
use Rattle.kdb_places.specs.Places.{Place}
use Rattle.keytab_words.specs.declared.words.KeytabWords.{KeytabWords}
use Rattle.keytab_words.specs.declared.words.KeytabWords.TheVariants.{AddRenewed, AddStanding, Remove}
use Rattle.run_events.proofs.Within.{AreWithin}
use Rattle.session_base.specs.Draws.{Draws}
use Rattle.store_files.specs.Found.{found_by, found_in, recovers}

-- it opens with a log size above 0, or with none
pub record OpenedBy (files : Files) (draws : Option Draws) (begin : Place) (made : List Place)
    (at : Seen) : Type 0 where
  pub size : Option ℕ
  pub some : IsSize size
  pub opens : IsOpen size (found_in files) draws begin made at

-- it opens for new keys of some name
pub record RenewedBy (left : Option (List ℕ)) (files : Files) (draws : Option Draws) (begin : Place) (made : List Place)
    (at : Seen) (reads : Bool)
    (what : Renewing) : Type 0 where
  pub word : List ℕ
  pub etypes : List Etype
  pub is : IsAddingNew word etypes left (found_in files) draws begin made at reads what

abbrev pub Facts : Option (List ℕ) → Files → Option Draws → Opening → Type 0
Facts left files draws (Refuses why drawn) = Unit {0}
Facts left files draws (Opens begin made at its) = OpenedBy files draws begin made at
Facts left files draws (Loads begin made at what) = IsLoading left (found_in files) draws begin made at what
Facts left files draws (Adds begin made at reads what) = OpenedBy files draws begin made at
Facts left files draws (AddsNew begin made at reads what) = RenewedBy left files draws begin made at reads what
Facts left files draws (Filters what) = Unit {0}
Facts left files draws (Tells text drawn) = Unit {0}
Facts left files draws (Makes spec) = IsSpec spec × (found_in files ≡ Err NotADatabase)
Facts left files draws Ends = Unit {0}

module _ (left : Option (List ℕ)) (files : Files) (draws : Option Draws) where
  is_other : (o other : Opening) → o ≡ other → Facts left files draws other → Facts left files draws o
  is_other o other is facts = subst (λ (x : Opening). Facts left files draws x) (sym is) facts

  opens_facts : (size : Option ℕ) (asking : Asking) (o : Opening) → IsSize size
      → opens_for size asking (found_in files) draws o → Facts left files draws o
  opens_facts size asking (Refuses why drawn) some h = tt
  opens_facts size asking (Opens begin made at its) some h = record { size = size; some = some; opens = h.0 }
  opens_facts size asking (Loads begin made at what) some h = absurd h
  opens_facts size asking (Adds begin made at reads what) some h = absurd h
  opens_facts size asking (AddsNew begin made at reads what) some h = absurd h
  opens_facts size asking (Filters what) some h = absurd h
  opens_facts size asking (Tells text drawn) some h = absurd h
  opens_facts size asking (Makes spec) some h = absurd h
  opens_facts size asking Ends some h = absurd h

  load_facts : (o : Opening) → loads_for left (found_in files) draws o → Facts left files draws o
  load_facts (Refuses why drawn) h = tt
  load_facts (Opens begin made at its) h = absurd h
  load_facts (Loads begin made at what) h = h
  load_facts (Adds begin made at reads what) h = absurd h
  load_facts (AddsNew begin made at reads what) h = absurd h
  load_facts (Filters what) h = absurd h
  load_facts (Tells text drawn) h = absurd h
  load_facts (Makes spec) h = absurd h
  load_facts Ends h = absurd h

  add_facts : (word : List ℕ) (o : Opening) → adds_for word left (found_in files) draws o → Facts left files draws o
  add_facts word (Refuses why drawn) h = tt
  add_facts word (Opens begin made at its) h = absurd h
  add_facts word (Loads begin made at what) h = absurd h
  add_facts word (Adds begin made at reads what) h = record { size = None; some = tt; opens = h.opens }
  add_facts word (AddsNew begin made at reads what) h = absurd h
  add_facts word (Filters what) h = absurd h
  add_facts word (Tells text drawn) h = absurd h
  add_facts word (Makes spec) h = absurd h
  add_facts word Ends h = absurd h

  renew_facts : (word : List ℕ) (etypes : List Etype) (o : Opening)
      → adds_new_for word etypes left (found_in files) draws o → Facts left files draws o
  renew_facts word etypes (Refuses why drawn) h = tt
  renew_facts word etypes (Opens begin made at its) h = absurd h
  renew_facts word etypes (Loads begin made at what) h = absurd h
  renew_facts word etypes (Adds begin made at reads what) h = absurd h
  renew_facts word etypes (AddsNew begin made at reads what) h = record { word = word; etypes = etypes; is = h }
  renew_facts word etypes (Filters what) h = absurd h
  renew_facts word etypes (Tells text drawn) h = absurd h
  renew_facts word etypes (Makes spec) h = absurd h
  renew_facts word etypes Ends h = absurd h

  keytab_facts : (words : KeytabWords) (o : Opening) → keytab_for words left (found_in files) draws o
      → Facts left files draws o
  keytab_facts (Remove name which) (Refuses why drawn) h = tt
  keytab_facts (Remove name which) (Opens begin made at its) h = absurd h
  keytab_facts (Remove name which) (Loads begin made at what) h = absurd h
  keytab_facts (Remove name which) (Adds begin made at reads what) h = absurd h
  keytab_facts (Remove name which) (AddsNew begin made at reads what) h = absurd h
  keytab_facts (Remove name which) (Filters what) h = tt
  keytab_facts (Remove name which) (Tells text drawn) h = tt
  keytab_facts (Remove name which) (Makes spec) h = absurd h
  keytab_facts (Remove name which) Ends h = tt
  keytab_facts (AddStanding word) o h = add_facts word o h
  keytab_facts (AddRenewed word etypes) o h = renew_facts word etypes o h

  tell_facts : (text : Option (Place → List ℕ)) (r : Result Place Refusal) (o : Opening) → IsToldBy text r o
      → Facts left files draws o
  tell_facts text (Err why) o h = is_other o (Refuses why _) h tt
  tell_facts None (Ok p) o h = absurd h
  tell_facts (Some text) (Ok p) o h = is_other o (Tells (text p) _) h tt

  create_facts : (spec : SpecParts) (force : Force) (o : Opening) → IsSpec spec → in_force (files 0) ≡ force
      → o ≡ create_of spec force → Facts left files draws o
  unfolding found_in
  create_facts spec Nothing o within none h =
      is_other o (Makes spec) h (within, ap (λ (f : Force). found_by f files) none)
  create_facts spec (Is choice) o within there h = is_other o (Refuses _ _) h tt
  create_facts spec (Broken place) o within there h = is_other o (Refuses _ _) h tt

  destroy_facts : (force : Force) (o : Opening) → o ≡ destroy_of force → Facts left files draws o
  destroy_facts Nothing o h = is_other o (Refuses _ _) h tt
  destroy_facts (Is choice) o h = is_other o Ends h tt
  destroy_facts (Broken place) o h = is_other o (Refuses _ _) h tt

  pub begun : (said : Result Words Refusal) (o : Opening) → AreWithin said → IsOpening said left files draws o
      → Facts left files draws o
  unfolding IsOpening
  begun (Err refusal) o within h = is_other o (Refuses refusal _) h tt
  begun (Ok (words.Admin size)) o within h = opens_facts size asking.Input o within h
  begun (Ok (words.Line line)) o within h = opens_facts None (asking.Line line) o tt h
  begun (Ok words.Load) o within h = load_facts o h
  begun (Ok words.Renew) o within h = opens_facts None asking.ResetsLog o tt h
  begun (Ok (words.Keytab keytab)) o within h = keytab_facts keytab o h
  begun (Ok (words.Tell account)) o within h = tell_facts (texts_of account draws) (recovers files) o h
  begun (Ok (words.Generate script)) o within h = is_other o (Tells _ _) h tt
  begun (Ok (words.Create spec)) o within h = create_facts spec (in_force (files 0)) o within refl h
  begun (Ok words.Destroy) o within h = destroy_facts (in_force (files 0)) o h
