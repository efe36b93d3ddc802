-- A principal's tagged list is a list of items.
use Rattle.std.proofs.Common.{◌≡◌, ℕ, ◌+◌, ◌^◌, ◌<◌, Bool, true, List, [], ◌∷◌, ◌++◌, length}
use Rattle.std.proofs.Common.{Option, Some, None, refl, sym, ap, ◌∙◌, append_assoc, arith}
use Rattle.std.specs.Prelude.{is_some, nat_lt}
use Rattle.std.specs.List.{AllByRecursion, flat_map}
use Rattle.std.proofs.lemmas.Bool.{lt-ltb}
use Rattle.std.proofs.lemmas.List.{append-nil}
use Rattle.std.proofs.lemmas.List.Elements.{All-from_recursion}
use Rattle.kdb_base.specs.Versions.{AreRising}
use Rattle.kdb_format.specs.Numbers.{length-little}
use Rattle.kdb_format.specs.Spellings.{big, counted_list, little}
use Rattle.tagged_data.specs.Items.{item, IsItem}
use Rattle.tagged_data.specs.Kinds.{is_kind}
use Rattle.tagged_data.specs.Lists.{tagged, IsTagged, content, kinds_of}
use Rattle.tagged_data.specs.Modifiers.{modifier_text, length-modifier_text}
use Rattle.tagged_data.specs.Rising.{rising_from, rising_is}
use Rattle.tagged_data.specs.Versions.{activations_text, aux_keys_text}
use Rattle.tagged_data.specs.Strings.{strings_text, AreStrings}
use Rattle.tagged_data.specs.StringLaws.{strings_short}
use Rattle.tagged_data.specs.declared.string_attributes.StringAttribute.{StringAttribute}
use Rattle.tagged_data.specs.declared.items.TagItem.{TagItem}
use Rattle.princ_record.specs.Facts.{tag, pw_len, pw_text, chain_text, chain_part, strings_count}
use Rattle.princ_record.specs.Facts.{strings_item, base_of, facts, IsChainOr, IsFacts}
use Rattle.princ_name.specs.PrintedLaws.{printed_short}
use Rattle.princ_record.specs.Tags.{pw_tags, chain_tags, string_tags, tags}
use Rattle.princ_record.specs.declared.facts.ChainPart.{ChainPart}
use Rattle.princ_record.specs.declared.facts.Facts.{Facts}

-- the items of these contents
abbrev items : Option ℕ → List ℕ → List ℕ → Option ChainPart → List StringAttribute → List TagItem
items pw modifier version chain list = pw_tags pw ++ record { kind = 2; bytes = modifier }
    ∷ record { kind = 8; bytes = version } ∷ (chain_tags chain ++ string_tags list)

counts : (pw : Option ℕ) (m v : List ℕ) (chain : Option ChainPart) (list : List StringAttribute)
    → base_of (is_some chain) + pw_len pw + strings_count list ≡ length (items pw m v chain list)
unfolding pw_tags chain_tags string_tags
counts None m v None [] = refl
counts None m v (Some c) [] = refl
counts (Some secs) m v None [] = refl
counts (Some secs) m v (Some c) [] = refl
counts None m v None (a ∷ list) = refl
counts None m v (Some c) (a ∷ list) = refl
counts (Some secs) m v None (a ∷ list) = refl
counts (Some secs) m v (Some c) (a ∷ list) = refl

string_items : (list : List StringAttribute) → strings_item list ≡ flat_map item (string_tags list)
unfolding strings_item string_tags item tag
string_items [] = refl
string_items (a ∷ list) = sym (append-nil (tag 11 (strings_text (a ∷ list))))

last_items : (chain : Option ChainPart) (list : List StringAttribute)
    → chain_text chain ++ strings_item list ≡ flat_map item (chain_tags chain ++ string_tags list)
unfolding chain_text chain_part chain_tags item tag
last_items None list = string_items list
last_items (Some c) list =
    append_assoc (tag 9 (activations_text c.activations)) (tag 10 (aux_keys_text c.aux)) (strings_item list)
    ∙ ap (λ (b : List ℕ). tag 9 (activations_text c.activations) ++ (tag 10 (aux_keys_text c.aux) ++ b))
    (string_items list)

texts : (pw : Option ℕ) (m v : List ℕ) (chain : Option ChainPart) (list : List StringAttribute)
    → pw_text pw ++ (tag 2 m ++ (tag 8 v ++ (chain_text chain ++ strings_item list)))
    ≡ flat_map item (items pw m v chain list)
unfolding pw_text pw_tags item tag
texts None m v chain list = ap (λ (b : List ℕ). tag 2 m ++ (tag 8 v ++ b)) (last_items chain list)
texts (Some secs) m v chain list =
    ap (λ (b : List ℕ). tag 1 (little 4 secs) ++ (tag 2 m ++ (tag 8 v ++ b))) (last_items chain list)

pub facts_are_tagged : (f : Facts) → facts f ≡ tagged (tags f)
unfolding facts tagged counted_list tags
facts_are_tagged f =
    let m = modifier_text (f.modified, f.modifier) in
    let v = little 2 f.mkvno in
    ap (λ (n : ℕ).
    big 2 n ++ (pw_text f.pw_changed ++ (tag 2 m ++ (tag 8 v ++ (chain_text f.chain ++ strings_item f.strings)))))
    (counts f.pw_changed m v f.chain f.strings)
    ∙ ap (λ (b : List ℕ). big 2 (length (items f.pw_changed m v f.chain f.strings)) ++ b)
    (texts f.pw_changed m v f.chain f.strings)

-- ---- the items are such as a tagged list has

rising : (pw : Option ℕ) (m v : List ℕ) (chain : Option ChainPart) (list : List StringAttribute)
    → AreRising (kinds_of (items pw m v chain list))
unfolding pw_tags chain_tags string_tags rising_from
rising None m v None [] = rising_is (2 ∷ 8 ∷ []) refl
rising None m v (Some c) [] = rising_is (2 ∷ 8 ∷ 9 ∷ 10 ∷ []) refl
rising (Some secs) m v None [] = rising_is (1 ∷ 2 ∷ 8 ∷ []) refl
rising (Some secs) m v (Some c) [] = rising_is (1 ∷ 2 ∷ 8 ∷ 9 ∷ 10 ∷ []) refl
rising None m v None (a ∷ list) = rising_is (2 ∷ 8 ∷ 11 ∷ []) refl
rising None m v (Some c) (a ∷ list) = rising_is (2 ∷ 8 ∷ 9 ∷ 10 ∷ 11 ∷ []) refl
rising (Some secs) m v None (a ∷ list) = rising_is (1 ∷ 2 ∷ 8 ∷ 11 ∷ []) refl
rising (Some secs) m v (Some c) (a ∷ list) = rising_is (1 ∷ 2 ∷ 8 ∷ 9 ∷ 10 ∷ 11 ∷ []) refl

strings_each : (list : List StringAttribute) → AreStrings list → AllByRecursion IsItem (string_tags list)
unfolding string_tags is_kind
strings_each [] f = tt
strings_each (a ∷ list) f = let short = strings_short (a ∷ list) f in (record { known = refl; short = omega arith }, tt)

last_each : (chain : Option ChainPart) (list : List StringAttribute) → IsChainOr chain → AreStrings list
    → AllByRecursion IsItem (chain_tags chain ++ string_tags list)
unfolding chain_tags is_kind
last_each None list f g = strings_each list g
last_each (Some c) list f g = (
  record { known = refl; short = f.activations_short },
  (record { known = refl; short = f.aux_short }, strings_each list g),
)

each : (pw : Option ℕ) (m v : List ℕ) (chain : Option ChainPart) (list : List StringAttribute) → length m < 2 ^ 16
    → length v < 2 ^ 16 → IsChainOr chain → AreStrings list
    → AllByRecursion IsItem (items pw m v chain list)
unfolding pw_tags is_kind
each None m v chain list a b f g =
    (record { known = refl; short = a }, (record { known = refl; short = b }, last_each chain list f g))
each (Some secs) m v chain list a b f g = (
  record { known = refl; short = omega (arith, length-little 4 secs) },
  (record { known = refl; short = a }, (record { known = refl; short = b }, last_each chain list f g)),
)

pub tags_are_items : (master : Bool) (f : Facts) → IsFacts master f → IsTagged (tags f)
unfolding tags
tags_are_items master f g =
    let m = modifier_text (f.modified, f.modifier) in
    let v = little 2 f.mkvno in
    let short = printed_short f.modifier g.modifier in
    record {
      rising = rising f.pw_changed m v f.chain f.strings;
      items = All-from_recursion IsItem (items f.pw_changed m v f.chain f.strings)
          (each f.pw_changed m v f.chain f.strings (omega (arith, length-modifier_text (f.modified, f.modifier)))
          (omega (arith, length-little 2 f.mkvno)) g.chain g.strings);
    }

-- ---- who has which items

activations_there : (pw : Option ℕ) (m v : List ℕ) (chain : Option ChainPart) (list : List StringAttribute)
    → is_some (content 9 (items pw m v chain list)) ≡ is_some chain
unfolding content pw_tags chain_tags string_tags
activations_there None m v None [] = refl
activations_there None m v (Some c) list = refl
activations_there (Some secs) m v None [] = refl
activations_there (Some secs) m v (Some c) list = refl
activations_there None m v None (a ∷ list) = refl
activations_there (Some secs) m v None (a ∷ list) = refl

aux_there : (pw : Option ℕ) (m v : List ℕ) (chain : Option ChainPart) (list : List StringAttribute)
    → is_some (content 10 (items pw m v chain list)) ≡ is_some chain
unfolding content pw_tags chain_tags string_tags
aux_there None m v None [] = refl
aux_there None m v (Some c) list = refl
aux_there (Some secs) m v None [] = refl
aux_there (Some secs) m v (Some c) list = refl
aux_there None m v None (a ∷ list) = refl
aux_there (Some secs) m v None (a ∷ list) = refl

some_there : (a : StringAttribute) (list : List StringAttribute) → true ≡ nat_lt 0 (length (a ∷ list))
some_there a list = sym (lt-ltb 0 (length (a ∷ list)) (omega arith))

strings_there : (pw : Option ℕ) (m v : List ℕ) (chain : Option ChainPart) (list : List StringAttribute)
    → is_some (content 11 (items pw m v chain list)) ≡ nat_lt 0 (length list)
unfolding content pw_tags chain_tags string_tags
strings_there None m v None [] = refl
strings_there None m v (Some c) [] = refl
strings_there (Some secs) m v None [] = refl
strings_there (Some secs) m v (Some c) [] = refl
strings_there None m v None (a ∷ list) = some_there a list
strings_there None m v (Some c) (a ∷ list) = some_there a list
strings_there (Some secs) m v None (a ∷ list) = some_there a list
strings_there (Some secs) m v (Some c) (a ∷ list) = some_there a list

pub has_activations : (master : Bool) (f : Facts) → IsFacts master f → is_some (content 9 (tags f)) ≡ master
unfolding tags
has_activations master f g =
    activations_there f.pw_changed (modifier_text (f.modified, f.modifier)) (little 2 f.mkvno) f.chain f.strings
    ∙ g.chain_there

pub has_aux : (master : Bool) (f : Facts) → IsFacts master f → is_some (content 10 (tags f)) ≡ master
unfolding tags
has_aux master f g =
    aux_there f.pw_changed (modifier_text (f.modified, f.modifier)) (little 2 f.mkvno) f.chain f.strings ∙ g.chain_there

pub has_strings : (f : Facts) → is_some (content 11 (tags f)) ≡ nat_lt 0 (length f.strings)
unfolding tags
has_strings f = strings_there f.pw_changed (modifier_text (f.modified, f.modifier)) (little 2 f.mkvno) f.chain f.strings
