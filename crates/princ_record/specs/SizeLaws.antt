-- The spellings of records have these lengths.
use Rattle.std.proofs.Common.{◌≡◌, ℕ, ◌+◌, List, [], ◌∷◌, ◌++◌, length, Option, Some, None, refl, arith}
use Rattle.std.specs.List.{sum_by}
use Rattle.std.proofs.lemmas.List.{length-append}
use Rattle.kdb_format.specs.Spellings.{big, little, counted}
use Rattle.kdb_format.specs.Numbers.{length-big, length-little}
use Rattle.kdb_format.specs.Lengths.{length-counted}
use Rattle.tagged_data.specs.Modifiers.{modifier_text, length-modifier_text}
use Rattle.tagged_data.specs.Versions.{activations_text, length-activations_text, aux_keys_text}
use Rattle.tagged_data.specs.Strings.{strings_text}
use Rattle.tagged_data.specs.declared.string_attributes.StringAttribute.{StringAttribute}
use Rattle.princ_keys.specs.Keys.{keys_text}
use Rattle.princ_keys.specs.Remembered.{old_sets}
use Rattle.princ_record.specs.Facts.{tag, pw_text, chain_part, chain_text, strings_item, facts, count_of}
use Rattle.princ_record.specs.Princs.{lives, name_of, princ, lives_of, facts_of}
use Rattle.princ_record.specs.declared.facts.ChainPart.{ChainPart}
use Rattle.princ_record.specs.declared.facts.Facts.{Facts}
use Rattle.princ_record.specs.declared.princs.Lives.{Lives}
use Rattle.princ_record.specs.declared.princs.Princ.{Princ}
use Rattle.princ_record.specs.Sizes.{pw_text_len, chain_len, strings_item_len}
use Rattle.princ_keys.specs.Sizes.{key_len, old_set_len}
use Rattle.princ_keys.specs.SizeLaws.{length-keys_text, length-old_sets}

-- ---- the tagged list

pub length-tag : (kind : ℕ) (bytes : List ℕ) → length (tag kind bytes) ≡ 4 + length bytes
unfolding tag
length-tag kind bytes =
    omega (arith, length-append (big 2 kind) (counted bytes), length-big 2 kind, length-counted bytes)

length-pw_text : (pw : Option ℕ) → length (pw_text pw) ≡ pw_text_len pw
unfolding pw_text
length-pw_text None = refl
length-pw_text (Some secs) = omega (arith, length-tag 1 (little 4 secs), length-little 4 secs)

length-chain_text : (c : Option ChainPart) → length (chain_text c) ≡ chain_len c
unfolding chain_text chain_part
length-chain_text None = refl
length-chain_text (Some c) =
    omega (
      arith,
      length-append (tag 9 (activations_text c.activations)) (tag 10 (aux_keys_text c.aux)),
      length-tag 9 (activations_text c.activations),
      length-activations_text c.activations,
      length-tag 10 (aux_keys_text c.aux),
    )

length-strings_item : (list : List StringAttribute) → length (strings_item list) ≡ strings_item_len list
unfolding strings_item
length-strings_item [] = refl
length-strings_item (a ∷ list) = length-tag 11 (strings_text (a ∷ list))

pub length-facts : (f : Facts) → length (facts f)
    ≡ 17 + pw_text_len f.pw_changed + length f.modifier + chain_len f.chain + strings_item_len f.strings
unfolding facts
length-facts f =
    let m = modifier_text (f.modified, f.modifier) in
    let n = little 2 f.mkvno in
    omega (
      arith,
      length-append (big 2 (count_of f))
          (pw_text f.pw_changed ++ (tag 2 m ++ (tag 8 n ++ (chain_text f.chain ++ strings_item f.strings)))),
      length-append (pw_text f.pw_changed) (tag 2 m ++ (tag 8 n ++ (chain_text f.chain ++ strings_item f.strings))),
      length-append (tag 2 m) (tag 8 n ++ (chain_text f.chain ++ strings_item f.strings)),
      length-append (tag 8 n) (chain_text f.chain ++ strings_item f.strings),
      length-append (chain_text f.chain) (strings_item f.strings),
      length-big 2 (count_of f),
      length-pw_text f.pw_changed,
      length-tag 2 m,
      length-modifier_text (f.modified, f.modifier),
      length-tag 8 n,
      length-little 2 f.mkvno,
      length-chain_text f.chain,
      length-strings_item f.strings,
    )

-- ---- the principal

length-lives : (v : Lives) → length (lives v) ≡ 16
unfolding lives
length-lives v =
    omega (
      arith,
      length-append (big 4 v.max_life) (big 4 v.max_renew ++ (big 4 v.expire ++ big 4 v.pw_expire)),
      length-append (big 4 v.max_renew) (big 4 v.expire ++ big 4 v.pw_expire),
      length-append (big 4 v.expire) (big 4 v.pw_expire),
      length-big 4 v.max_life,
      length-big 4 v.max_renew,
      length-big 4 v.expire,
      length-big 4 v.pw_expire,
    )

pub length-princ : (p : Princ)
    → length (princ p) ≡ 45 + length p.name + pw_text_len p.pw_changed + length p.modifier + chain_len p.chain
    + strings_item_len p.strings + sum_by key_len p.keys + length (name_of p.policy) + sum_by old_set_len p.old
unfolding princ
length-princ p =
    let a = old_sets p.old in
    let b = counted (name_of p.policy) ++ a in
    let c = keys_text p.keys ++ b in
    let d = facts (facts_of p) ++ c in
    let e = lives (lives_of p) ++ d in
    omega (
      arith,
      length-append (counted p.name) (big 4 p.attributes ++ e),
      length-append (big 4 p.attributes) e,
      length-append (lives (lives_of p)) d,
      length-append (facts (facts_of p)) c,
      length-append (keys_text p.keys) b,
      length-append (counted (name_of p.policy)) a,
      length-counted p.name,
      length-big 4 p.attributes,
      length-lives (lives_of p),
      length-facts (facts_of p),
      length-keys_text p.keys,
      length-counted (name_of p.policy),
      length-old_sets p.old,
    )
