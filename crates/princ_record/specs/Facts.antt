-- What a principal's tagged list says: the last password change, the modifier, the version of the master key and, at
-- K/M alone, the activations and the auxiliary keys; and everywhere but there the string attributes. The items stand by
-- rising types, so each stands in one place.
use Rattle.std.proofs.Common.{◌≡◌, ℕ, ◌+◌, ◌^◌, ◌<◌, Bool, true, ◌&&◌, List, [], ◌∷◌, ◌++◌, length, Option, Some, None}
use Rattle.std.specs.Prelude.{is_some, not, nat_eq, if◌then◌else◌}
use Rattle.kdb_format.specs.Readings.{Reading, ◌>>=◌, ◌>>◌, done, known, refuse, checked}
use Rattle.kdb_format.specs.Readings.{whole, big_at, little_at, counted_at, literal_at}
use Rattle.kdb_format.specs.Spellings.{big, little, counted}
use Rattle.tagged_data.specs.Modifiers.{modifier_at, modifier_text}
use Rattle.tagged_data.specs.Numbers.{version_at, IsVersion}
use Rattle.tagged_data.specs.Versions.{activations_at, activations_text, AreActivations}
use Rattle.tagged_data.specs.Versions.{aux_keys_at, aux_keys_text, AreAuxKeys}
use Rattle.princ_name.specs.Printed.{is_printed, IsPrinted}
use Rattle.tagged_data.specs.Strings.{strings_at, strings_text, AreStrings}
use Rattle.tagged_data.specs.declared.string_attributes.StringAttribute.{StringAttribute}
use Rattle.princ_record.specs.declared.facts.ChainPart.{ChainPart}
use Rattle.princ_record.specs.declared.facts.Changes.{Changes}
use Rattle.princ_record.specs.declared.facts.Facts.{Facts}

-- ---- an item

-- a counted text, and what it says
unfoldable pub content_at : {A : Type 0} → (List ℕ → Option A) → Reading A
content_at read = do
  bytes ← counted_at
  known (read bytes)

-- the item of this type
unfoldable pub tag_at : {A : Type 0} → ℕ → (List ℕ → Option A) → Reading A
tag_at kind read = do
  literal_at (big 2 kind)
  content_at read

unfoldable pub tag : ℕ → List ℕ → List ℕ
tag kind bytes = big 2 kind ++ counted bytes

-- ---- the last password change

abbrev pub pw_len : Option ℕ → ℕ
pw_len None = 0
pw_len (Some secs) = 1

unfoldable pub pw_text : Option ℕ → List ℕ
pw_text None = []
pw_text (Some secs) = tag 1 (little 4 secs)

abbrev pub IsPw : Option ℕ → Type 0
IsPw None = Unit {0}
IsPw (Some secs) = secs < 2 ^ 32

-- ---- the modifier

unfoldable pub modifier_of : List ℕ → Option (ℕ × List ℕ)
modifier_of = whole (checked (λ m. is_printed m.1) modifier_at)

pub record IsModified (m : ℕ × List ℕ) : Type 0 where
  pub secs : m.0 < 2 ^ 32
  pub name : IsPrinted m.1

-- ---- both changes

-- the last password change, behind its type, and the modifier
unfoldable pub pw_then_at : Reading (ℕ × (ℕ × List ℕ))
pw_then_at = do
  secs ← content_at (whole (little_at 4))
  modifier ← tag_at 2 modifier_of
  done (secs, modifier)

-- the first item is of type 1 where a password change stands
unfoldable pub changes_of : ℕ → Reading Changes
changes_of kind =
    if nat_eq kind 1
    then (do both ← pw_then_at; done (record { pw_changed = Some both.0; modified = both.1.0; modifier = both.1.1 }))
    else if nat_eq kind 2
    then (do modifier ← content_at modifier_of; done (record { pw_changed = None; modified = modifier.0; modifier = modifier.1 }))
    else refuse

unfoldable pub changes_at : Reading Changes
changes_at = do
  kind ← big_at 2
  changes_of kind

unfoldable pub changes : Changes → List ℕ
changes c = pw_text c.pw_changed ++ tag 2 (modifier_text (c.modified, c.modifier))

pub record AreChanges (c : Changes) : Type 0 where
  pub pw_changed : IsPw c.pw_changed
  pub modified : IsModified (c.modified, c.modifier)

-- ---- what K/M alone has

unfoldable pub chain_part_at : Reading ChainPart
chain_part_at = do
  activations ← tag_at 9 activations_at
  aux ← tag_at 10 aux_keys_at
  done (record { activations = activations; aux = aux })

unfoldable pub chain_part : ChainPart → List ℕ
chain_part c = tag 9 (activations_text c.activations) ++ tag 10 (aux_keys_text c.aux)

-- each content is shorter than 65536 bytes
pub record IsChain (c : ChainPart) : Type 0 where
  pub activations : AreActivations c.activations
  pub activations_short : length (activations_text c.activations) < 2 ^ 16
  pub aux : AreAuxKeys c.aux
  pub aux_short : length (aux_keys_text c.aux) < 2 ^ 16

unfoldable pub chain_text : Option ChainPart → List ℕ
chain_text None = []
chain_text (Some c) = chain_part c

abbrev pub IsChainOr : Option ChainPart → Type 0
IsChainOr None = Unit {0}
IsChainOr (Some c) = IsChain c

unfoldable pub chain_at : Bool → Reading (Option ChainPart)
chain_at master = if master then (do c ← chain_part_at; done (Some c)) else done None

-- ---- string attributes, which K/M never has

-- one item, where there is an attribute
abbrev pub strings_count : List StringAttribute → ℕ
strings_count [] = 0
strings_count (a ∷ list) = 1

unfoldable pub strings_item : List StringAttribute → List ℕ
strings_item [] = []
strings_item (a ∷ list) = tag 11 (strings_text (a ∷ list))

-- it stands where one item more is counted than stands before it
unfoldable pub strings_item_at : Bool → ℕ → ℕ → Reading (List StringAttribute)
strings_item_at master before count =
    if nat_eq count before then done []
    else if nat_eq count (before + 1) && not master then tag_at 11 strings_at
    else refuse

-- ---- the list

-- how many items always stand
abbrev pub base_of : Bool → ℕ
base_of master = if master then 4 else 2

abbrev pub count_of : Facts → ℕ
count_of f = base_of (is_some f.chain) + pw_len f.pw_changed + strings_count f.strings

unfoldable pub facts_at : Bool → Reading Facts
facts_at master = do
  count ← big_at 2
  changes ← changes_at
  mkvno ← tag_at 8 (whole version_at)
  chain ← chain_at master
  strings ← strings_item_at master (base_of master + pw_len changes.pw_changed) count
  done (record {
    pw_changed = changes.pw_changed;
    modified = changes.modified;
    modifier = changes.modifier;
    mkvno = mkvno;
    chain = chain;
    strings = strings;
  })

unfoldable pub facts : Facts → List ℕ
facts f =
    big 2 (count_of f)
    ++ (pw_text f.pw_changed ++ (tag 2 (modifier_text (f.modified, f.modifier))
    ++ (tag 8 (little 2 f.mkvno) ++ (chain_text f.chain ++ strings_item f.strings))))

pub record IsFacts (master : Bool) (f : Facts) : Type 0 where
  pub pw_changed : IsPw f.pw_changed
  pub modified : f.modified < 2 ^ 32
  pub modifier : IsPrinted f.modifier
  pub mkvno : IsVersion f.mkvno
  pub chain_there : is_some f.chain ≡ master
  pub chain : IsChainOr f.chain
  pub strings : AreStrings f.strings
  pub no_strings : master ≡ true → f.strings ≡ []

-- ---- heads of items

-- what stands before a content
unfoldable pub head : ℕ → ℕ → List ℕ
head kind len = big 2 kind ++ big 2 len
