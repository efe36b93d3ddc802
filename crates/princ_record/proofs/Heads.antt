-- Contents behind their heads.
use Rattle.std.proofs.Common.{◌≡◌, ℕ, ◌+◌, ◌*◌, ◌<◌, List, [], ◌∷◌, ◌++◌, length, refl, sym, arith}
use Rattle.std.proofs.lemmas.List.{append-nil}
use Rattle.kdb_base.specs.declared.versions.Activation.{Activation}
use Rattle.kdb_base.specs.declared.versions.AuxKey.{AuxKey}
use Rattle.tagged_data.specs.Modifiers.{modifier_text, length-modifier_text}
use Rattle.tagged_data.specs.Versions.{activations_text, length-activations_text, aux_keys_text}
use Rattle.tagged_data.specs.Strings.{strings_text}
use Rattle.tagged_data.specs.declared.string_attributes.StringAttribute.{StringAttribute}
use Rattle.princ_record.specs.Facts.{head, tag, strings_item}
use Rattle.princ_record.specs.FactLaws.{behind_head}
use Rattle.princ_name.specs.Printed.{IsPrinted}
use Rattle.princ_name.specs.PrintedLaws.{printed_short}

pub modifier_behind : (front : List ℕ) (secs : ℕ) (name : List ℕ)
    → (front ++ head 2 (5 + length name)) ++ modifier_text (secs, name) ≡ front ++ tag 2 (modifier_text (secs, name))
modifier_behind front secs name =
    behind_head front 2 (5 + length name) (modifier_text (secs, name)) (length-modifier_text (secs, name))

pub activations_behind : (front : List ℕ) (list : List Activation)
    → (front ++ head 9 (6 * length list)) ++ activations_text list ≡ front ++ tag 9 (activations_text list)
activations_behind front list =
    behind_head front 9 (6 * length list) (activations_text list) (length-activations_text list)

pub aux_keys_behind : (front : List ℕ) (list : List AuxKey) (n : ℕ) → n ≡ length (aux_keys_text list)
    → (front ++ head 10 n) ++ aux_keys_text list ≡ front ++ tag 10 (aux_keys_text list)
aux_keys_behind front list n e = behind_head front 10 n (aux_keys_text list) (sym e)

pub strings_behind : (front : List ℕ) (list : List StringAttribute) (n : ℕ) → n ≡ length (strings_text list)
    → (front ++ head 11 n) ++ strings_text list ≡ front ++ tag 11 (strings_text list)
strings_behind front list n e = behind_head front 11 n (strings_text list) (sym e)

pub short_printed : (name : List ℕ) → IsPrinted name → length name < 300
short_printed name f = let le = printed_short name f in omega arith

-- no attribute makes no item
pub nothing_behind : (front : List ℕ) (list : List StringAttribute) → length list ≡ 0
    → front ≡ front ++ strings_item list
unfolding strings_item
nothing_behind front [] none = sym (append-nil front)
nothing_behind front (a ∷ list) none = absurd (omega arith)

pub one_behind : (front : List ℕ) (list : List StringAttribute) → ¬ (list ≡ [])
    → front ++ tag 11 (strings_text list) ≡ front ++ strings_item list
unfolding strings_item
one_behind front [] some = absurd (some refl)
one_behind front (a ∷ list) some = refl
