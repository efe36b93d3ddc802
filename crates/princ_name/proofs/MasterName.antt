-- A printed name begins with K/M@ just where its components are K and M.
use Rattle.std.proofs.Common.{◌≡◌, ℕ, true, false, None, List, [], ◌∷◌, ◌++◌, codes}
use Rattle.std.proofs.Common.{drop, take, refl, sym, ap, ◌∙◌, take-append-drop}
use Rattle.std.proofs.lemmas.Slice.Eq.{bytes_eq-Decides}
use Rattle.princ_name.specs.Bytes.{is_refused, is_sign, printed_byte}
use Rattle.princ_name.specs.Faults.{first_fault, fault_from}
use Rattle.princ_name.specs.Names.{NameParts, IsName, printed, printed_parts, printed_text}
use Rattle.princ_name.specs.Printed.{is_master, master_parts}
use Rattle.princ_name.specs.Reading.{before_plain, before_sign, says}
use Rattle.princ_name.specs.Readings.{name_by, name_said}
use Rattle.princ_name.proofs.OwnNames.{said_name}
use Rattle.princ_name.proofs.PrintedSpells.{name_printed}
use Rattle.princ_name.proofs.Projections.{name_faultless}
use Rattle.princ_name.proofs.Sound.{sound_text}

master_front : (text : List ℕ) → is_master text ≡ true → text ≡ 75 ∷ 47 ∷ 77 ∷ 64 ∷ drop 4 text
unfolding is_master
master_front text e = sym (take-append-drop 4 text)
    ∙ ap (λ (front : List ℕ). front ++ drop 4 text) ((bytes_eq-Decides (take 4 text) (codes "K/M@")).0 e)

realm_faultless : (rest : List ℕ) → first_fault (75 ∷ 47 ∷ 77 ∷ 64 ∷ rest) ≡ None → fault_from 4 false true rest ≡ None
unfolding first_fault fault_from is_refused
realm_faultless rest e = e

-- the components of a word without a fault that begins so
master_said : (rest given : List ℕ) → first_fault (75 ∷ 47 ∷ 77 ∷ 64 ∷ rest) ≡ None
    → (name_said (75 ∷ 47 ∷ 77 ∷ 64 ∷ rest) given).parts ≡ master_parts
unfolding name_said name_by says before_plain before_sign
master_said rest given e =
    let realm = sound_text 4 4 false rest (realm_faultless rest e) in
    rw (realm.place, realm.alone) refl

pub master_tested : (name : NameParts) (text : List ℕ) → IsName name → text ≡ printed name → is_master text ≡ true
    → name.parts ≡ master_parts
master_tested name text is same e =
    let spelled = name_printed name [] is in
    let front : printed name ≡ 75 ∷ 47 ∷ 77 ∷ 64 ∷ drop 4 text = sym same ∙ master_front text e in
    let faultless : first_fault (75 ∷ 47 ∷ 77 ∷ 64 ∷ drop 4 text) ≡ None =
    sym (ap first_fault front) ∙ name_faultless (printed name) [] name spelled in
    ap (λ (n : NameParts). n.parts) (sym (said_name (printed name) [] name spelled))
    ∙ ap (λ (word : List ℕ). (name_said word []).parts) front
    ∙ master_said (drop 4 text) [] faultless

master_printed : (realm : List ℕ) → is_master (printed (record { parts = master_parts; realm = realm })) ≡ true
unfolding is_master printed printed_parts printed_text printed_byte is_sign
master_printed realm = refl

pub tested_master : (name : NameParts) (text : List ℕ) → text ≡ printed name → name.parts ≡ master_parts
    → is_master text ≡ true
tested_master name text same is =
    ap is_master (same ∙ ap (λ (parts : List (List ℕ)). printed (record { parts = parts; realm = name.realm })) is)
    ∙ master_printed name.realm
