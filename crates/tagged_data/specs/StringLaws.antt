-- Laws of string attributes: what is read is spelled so, and how long it is.
use Rattle.std.proofs.Common.{◌≡◌, ℕ, zero, suc, ◌+◌, ◌*◌, ◌<◌, ◌≤◌, Bool, true, false, ◌&&◌, leb, ltb}
use Rattle.std.proofs.Common.{List, [], ◌∷◌, ◌++◌, length, get_or, None, refl, sym, ap, ◌∙◌, arith}
use Rattle.std.specs.List.{AllByRecursion, list_all, flat_map, sum_by}
use Rattle.std.proofs.lemmas.Bool.{and_parts, and_from, both_ways, ltb-true, lt-ltb, leb-true, le-leb}
use Rattle.std.proofs.lemmas.List.{length-append}
use Rattle.std.proofs.lemmas.List.Elements.{All-from_recursion, recursion_from_All}
use Rattle.std.proofs.lemmas.List.Sums.{sum_by-cons, sum_by-le}
use Rattle.kdb_base.specs.Limits.{most_strings}
use Rattle.kdb_format.specs.Fields.{IsField}
use Rattle.kdb_format.specs.Laws.{same_field, first_field, last_field, checked_field}
use Rattle.tagged_data.specs.Contents.{IsContent, items_content, checked_content, same_content}
use Rattle.tagged_data.specs.KeyOrder.{rises_from}
use Rattle.tagged_data.specs.KeyOrderLaws.{in_order, rises}
use Rattle.tagged_data.specs.Modifiers.{ended, IsUnbroken, ended_field}
use Rattle.tagged_data.specs.Strings.{is_key_byte, is_string_key, is_value_byte, is_string_value, string_at, string}
use Rattle.tagged_data.specs.Strings.{IsString, keys_of, are_strings, strings_at, strings_text, AreStrings}
use Rattle.tagged_data.specs.declared.string_attributes.StringAttribute.{StringAttribute}

-- ---- keys and values

-- bytes that pass a test which a zero byte does not pass
no_zero : (test : ℕ → Bool) (text : List ℕ) → test 0 ≡ false → list_all test text ≡ true → (k : ℕ) → k < length text
    → get_or text k 0 ≡ 0 → ⊥
no_zero test [] none all k lt is = absurd (omega arith)
no_zero test (b ∷ text) none all zero lt is =
    both_ways (test b) (ap test is ∙ none) (and_parts (test b) (list_all test text) all).0
no_zero test (b ∷ text) none all (suc k) lt is =
    no_zero test text none (and_parts (test b) (list_all test text) all).1 k (omega arith) is

pub key_parts : (key : List ℕ) → is_string_key key ≡ true
    → (0 < length key) × ((length key ≤ 64) × (list_all is_key_byte key ≡ true))
unfolding is_string_key
key_parts key e =
    let p = and_parts (ltb 0 (length key) && leb (length key) 64) (list_all is_key_byte key) e in
    let q = and_parts (ltb 0 (length key)) (leb (length key) 64) p.0 in
    (ltb-true _ _ q.0, (leb-true _ _ q.1, p.1))

pub value_parts : (value : List ℕ) → is_string_value value ≡ true
    → (length value ≤ 1024) × (list_all is_value_byte value ≡ true)
unfolding is_string_value
value_parts value e =
    let p = and_parts (leb (length value) 1024) (list_all is_value_byte value) e in
    (leb-true _ _ p.0, p.1)

key_unbroken : (key : List ℕ) → is_string_key key ≡ true → IsUnbroken key
key_unbroken key e = λ (k, lt, is). no_zero is_key_byte key refl (key_parts key e).1.1 k lt is

value_unbroken : (value : List ℕ) → is_string_value value ≡ true → IsUnbroken value
value_unbroken value e = λ (k, lt, is). no_zero is_value_byte value refl (value_parts value e).1 k lt is

pub string_field : IsField string_at string IsString
unfolding string_at string
string_field = same_field
    (first_field (checked_field is_string_key ended_field) (λ (a : StringAttribute). a.key) (λ key _.
    last_field (checked_field is_string_value ended_field) (λ (a : StringAttribute). a.value) (λ value. record {
      key = key;
      value = value;
    }) (λ _ _. (refl, refl)) (λ a k. ap (λ (b : List ℕ). record { key = b; value = a.value }) (sym k))))
    (λ a f. (refl, record { key = f.0.1; value = f.1.1 }))
    (λ a f. ((key_unbroken a.key f.key, f.key), (value_unbroken a.value f.value, f.value)))

-- ---- lengths

abbrev pub string_len : StringAttribute → ℕ
string_len a = 2 + length a.key + length a.value

pub length-string : (a : StringAttribute) → length (string a) ≡ string_len a
unfolding string ended
length-string a =
    omega (
      arith,
      length-append (a.key ++ 0 ∷ []) (a.value ++ 0 ∷ []),
      length-append a.key (0 ∷ []),
      length-append a.value (0 ∷ []),
    )

pub length-strings_text : (list : List StringAttribute) → length (strings_text list) ≡ sum_by string_len list
unfolding strings_text
length-strings_text [] = refl
length-strings_text (a ∷ list) =
    omega (
      arith,
      sum_by-cons string_len a list,
      length-append (string a) (flat_map string list),
      length-string a,
      length-strings_text list,
    )

string_short : (a : StringAttribute) → IsString a → string_len a ≤ 1090
string_short a f = let k = key_parts a.key f.key in let v = value_parts a.value f.value in omega (arith, k.1.0, v.0)

each_short : (list : List StringAttribute) → AllByRecursion IsString list
    → AllByRecursion (λ a. string_len a ≤ 1090) list
each_short [] f = tt
each_short (a ∷ list) f = (string_short a f.0, each_short list f.1)

-- 16 times the longest attribute
pub strings_short : (list : List StringAttribute) → AreStrings list → length (strings_text list) ≤ 17440
strings_short list f =
    let few = f.few in
    let total : sum_by string_len list ≤ length list * 1090 =
    sum_by-le string_len 1090 list
    (All-from_recursion (λ a. string_len a ≤ 1090) list (each_short list (recursion_from_All IsString list f.each))) in
    omega (arith, length-strings_text list)

-- ---- the content

pub no_strings : AreStrings []
unfolding rises_from
no_strings = record { few = omega arith; each = All-from_recursion IsString [] tt; rising = in_order [] refl }

pub strings_rise : (list : List StringAttribute) → are_strings list ≡ true
    → (0 < length list) × ((length list ≤ most_strings) × (rises_from None (keys_of list) ≡ true))
unfolding are_strings
strings_rise list e =
    let p = and_parts (ltb 0 (length list) && leb (length list) most_strings) (rises_from None (keys_of list)) e in
    let q = and_parts (ltb 0 (length list)) (leb (length list) most_strings) p.0 in
    (ltb-true _ _ q.0, (leb-true _ _ q.1, p.1))

strings_pass : (list : List StringAttribute) → 0 < length list → AreStrings list → are_strings list ≡ true
unfolding are_strings
strings_pass list some f =
    and_from (ltb 0 (length list) && leb (length list) most_strings) (rises_from None (keys_of list))
    (and_from (ltb 0 (length list)) (leb (length list) most_strings) (lt-ltb _ _ some) (le-leb _ _ f.few))
    (rises (keys_of list) f.rising)

some_bytes : (a : StringAttribute) → IsString a → 0 < length (string a)
some_bytes a f = omega (arith, length-string a)

pub strings_content : IsContent strings_at strings_text (λ list. AreStrings list × (0 < length list))
unfolding strings_at strings_text
strings_content = same_content (checked_content are_strings (items_content string_field some_bytes))
    (λ list f. let p =
    strings_rise list f.1 in (record { few = p.1.0; each = f.0; rising = in_order (keys_of list) p.1.1 }, p.0))
    (λ list f. (f.0.each, strings_pass list f.1 f.0))
