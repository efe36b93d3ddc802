-- The format of a principal's tagged list agrees both ways.
use Rattle.std.proofs.Common.{◌≡◌, ℕ, ◌+◌, ◌^◌, ◌<◌, Bool, true, false, ◌&&◌, List, [], ◌∷◌, ◌++◌, length}
use Rattle.std.proofs.Common.{Option, Some, None, refl, sym, ap, subst, append_assoc, ◌∙◌, arith}
use Rattle.std.specs.Prelude.{is_some, not, nat_eq, option_and_then}
use Rattle.std.proofs.lemmas.Bool.{and_parts, and_from, both_ways, eqb-true, eq-eqb}
use Rattle.std.proofs.lemmas.Option.{same_Some}
use Rattle.kdb_base.specs.declared.versions.Activation.{Activation}
use Rattle.kdb_format.specs.Readings.{◌>>=◌, done, known, whole, counted_at}
use Rattle.kdb_format.specs.Spellings.{big, little, counted}
use Rattle.kdb_format.specs.Fields.{IsBytes, IsBytes-front, IsBytes-back, IsField}
use Rattle.kdb_format.specs.Numbers.{length-little}
use Rattle.kdb_format.specs.Laws.{bind_some, same_field, first_field, then_field, last_field}
use Rattle.kdb_format.specs.Laws.{made_field, after_field, choice_field, refuse_field, done_field}
use Rattle.kdb_format.specs.Laws.{literal_field, big_field, checked_field, counted_field}
use Rattle.tagged_data.specs.Contents.{IsContent, whole_content}
use Rattle.tagged_data.specs.Modifiers.{modifier_text, modifier_field, length-modifier_text}
use Rattle.tagged_data.specs.Numbers.{version_at, IsVersion, version_content, secs_content}
use Rattle.tagged_data.specs.Versions.{activations_content, aux_keys_content}
use Rattle.princ_name.specs.Printed.{is_printed}
use Rattle.princ_name.specs.PrintedLaws.{printed_test, test_printed, printed_short, printed_unbroken}
use Rattle.tagged_data.specs.Strings.{strings_text, AreStrings}
use Rattle.tagged_data.specs.StringLaws.{strings_content, strings_short, no_strings}
use Rattle.tagged_data.specs.declared.string_attributes.StringAttribute.{StringAttribute}
use Rattle.princ_record.specs.declared.facts.ChainPart.{ChainPart}
use Rattle.princ_record.specs.declared.facts.Changes.{Changes}
use Rattle.princ_record.specs.declared.facts.Facts.{Facts}
use Rattle.princ_record.specs.Facts.{content_at, tag_at, tag, pw_len, pw_text, IsPw, modifier_of, IsModified}
use Rattle.princ_record.specs.Facts.{pw_then_at, changes_of, changes_at, changes, AreChanges, chain_part_at}
use Rattle.princ_record.specs.Facts.{chain_part, IsChain, chain_text, IsChainOr, chain_at, strings_count, strings_item}
use Rattle.princ_record.specs.Facts.{strings_item_at, base_of, count_of, facts_at, facts, IsFacts, head}

-- ---- an item

known_some : {A : Type 0} (o : Option A) (rest : List ℕ) (x : A) (left : List ℕ) → known o rest ≡ Some (x, left)
    → (o ≡ Some x) × (rest ≡ left)
known_some None rest x left e = absurd cc
known_some {A = A} (Some y) rest x left e =
    let same = same_Some (y, rest) (x, left) e in
    (ap (λ (z : A × List ℕ). Some z.0) same, ap (λ (z : A × List ℕ). z.1) same)

pub content_field : {A : Type 0} {read : List ℕ → Option A} {s : A → List ℕ} {F : A → Type 0} → IsContent read s F
    → IsField (content_at read) (λ x. counted (s x)) (λ x. F x × (length (s x) < 2 ^ 16))
unfolding content_at counted
content_field {A = A} {read = read} {s = s} {F = F} content =
    let taken : (bytes : List ℕ) (x : A) (rest : List ℕ) → IsBytes bytes
    → option_and_then (λ (y : List ℕ × List ℕ). known (read y.0) y.1) (counted_at bytes) ≡ Some (x, rest)
    → (bytes ≡ counted (s x) ++ rest) × (F x × (length (s x) < 2 ^ 16)) = λ bytes x rest fits e.
    let a = bind_some (λ (y : List ℕ × List ℕ). known (read y.0) y.1) (counted_at bytes) (x, rest) e in
    let k = known_some (read a.0.0) a.0.1 x rest a.2 in
    let parts : bytes ≡ counted a.0.0 ++ a.0.1 = counted_field.spelled bytes a.0.0 a.0.1 fits a.1 in
    let short : length a.0.0 < 2 ^ 16 = counted_field.fits bytes a.0.0 a.0.1 fits a.1 in
    let here : IsBytes a.0.0 =
    IsBytes-back (big 2 (length a.0.0)) a.0.0 (IsBytes-front (counted a.0.0) a.0.1 (subst IsBytes parts fits)) in
    let text : a.0.0 ≡ s x = content.spelled a.0.0 x here k.0 in (
      parts ∙ ap (λ (b : List ℕ). counted b ++ a.0.1) text ∙ ap (λ (r : List ℕ). counted (s x) ++ r) k.1,
      (content.fits a.0.0 x here k.0, subst (λ (b : List ℕ). length b < 2 ^ 16) text short),
    ) in
    record {
      spelled = λ bytes x rest fits e. (taken bytes x rest fits e).0;
      fits = λ bytes x rest fits e. (taken bytes x rest fits e).1;
      again = λ x rest f.
          ap (λ (o : Option (List ℕ × List ℕ)). option_and_then (λ (y : List ℕ × List ℕ). known (read y.0) y.1) o)
          (counted_field.again (s x) rest f.1)
          ∙ ap (λ (o : Option A). known o rest) (content.again x f.0);
    }

pub tag_field : {A : Type 0} {read : List ℕ → Option A} {s : A → List ℕ} {F : A → Type 0} (kind : ℕ)
    → IsContent read s F
    → IsField (tag_at kind read) (λ x. tag kind (s x)) (λ x. F x × (length (s x) < 2 ^ 16))
unfolding tag_at tag
tag_field kind content = after_field (literal_field (big 2 kind)) tt (content_field content)

-- ---- the modifier

modified_field : IsField (content_at modifier_of) (λ m. counted (modifier_text m)) IsModified
unfolding modifier_of
modified_field = same_field (content_field (whole_content (checked_field (λ m. is_printed m.1) modifier_field)))
    (λ m f. (refl, record { secs = f.0.0.secs; name = test_printed m.1 f.0.1 }))
    (λ m f.
    let short = printed_short m.1 f.name in (
      (record { secs = f.secs; name = printed_unbroken m.1 f.name }, printed_test m.1 f.name),
      omega (arith, length-modifier_text m),
    ))

modified_tag_field : IsField (tag_at 2 modifier_of) (λ m. tag 2 (modifier_text m)) IsModified
unfolding tag_at tag
modified_tag_field = after_field (literal_field (big 2 2)) tt modified_field

-- ---- both changes

pw_then_field : IsField pw_then_at (λ x. counted (little 4 x.0) ++ tag 2 (modifier_text x.1))
    (λ x. (x.0 < 2 ^ 32) × IsModified x.1)
unfolding pw_then_at
pw_then_field = same_field
    (first_field (content_field secs_content) (λ (x : ℕ × (ℕ × List ℕ)). x.0) (λ secs _.
    last_field modified_tag_field (λ (x : ℕ × (ℕ × List ℕ)). x.1) (λ modifier. (secs, modifier)) (λ _ _. (refl, refl))
    (λ x k. ap (λ (n : ℕ). let y : ℕ × (ℕ × List ℕ) = (n, x.1) in y) (sym k))))
    (λ x f. (refl, (f.0.0, f.1)))
    (λ x f. ((f.0, omega (arith, length-little 4 x.0)), f.1))

abbrev first_kind : Option ℕ → ℕ
first_kind None = 2
first_kind (Some secs) = 1

-- what stands behind the first type
abbrev behind_first : Option ℕ → ℕ × List ℕ → List ℕ
behind_first None m = counted (modifier_text m)
behind_first (Some secs) m = counted (little 4 secs) ++ tag 2 (modifier_text m)

abbrev made_of : Option ℕ → ℕ × List ℕ → Changes
made_of pw m = record { pw_changed = pw; modified = m.0; modifier = m.1 }

set_from : (pw : Option ℕ) (m : ℕ × List ℕ) → first_kind pw ≡ 1 → IsPw pw → IsModified m
    → (x : ℕ × (ℕ × List ℕ)) × (((x.0 < 2 ^ 32) × IsModified x.1) × (made_of (Some x.0) x.1 ≡ made_of pw m))
set_from None m e f g = absurd (omega arith)
set_from (Some secs) m e f g = let x : ℕ × (ℕ × List ℕ) = (secs, m) in (x, ((f, g), refl))

not_set : (pw : Option ℕ) (m : ℕ × List ℕ) → first_kind pw ≡ 2 → made_of None m ≡ made_of pw m
not_set None m e = refl
not_set (Some secs) m e = absurd (omega arith)

no_kind : (pw : Option ℕ) (kind : ℕ) → first_kind pw ≡ kind → nat_eq kind 1 ≡ false → nat_eq kind 2 ≡ false → ⊥
no_kind None kind e a b = absurd cc
no_kind (Some secs) kind e a b = absurd cc

changes_of_field : (kind : ℕ) → IsField (changes_of kind) (λ c. behind_first c.pw_changed (c.modified, c.modifier))
    (λ c. (first_kind c.pw_changed ≡ kind) × AreChanges c)
unfolding changes_of
changes_of_field kind =
    choice_field (nat_eq kind 1)
    (λ e. made_field pw_then_field (λ both. made_of (Some both.0) both.1)
    (λ both f. (refl, (sym (eqb-true _ _ e), record { pw_changed = f.0; modified = f.1 })))
    (λ c g. set_from c.pw_changed (c.modified, c.modifier) (g.0 ∙ eqb-true _ _ e) g.1.pw_changed g.1.modified))
    (λ other. choice_field (nat_eq kind 2)
    (λ e. made_field modified_field (made_of None)
    (λ m f. (refl, (sym (eqb-true _ _ e), record { pw_changed = tt; modified = f })))
    (λ c g. let m : ℕ × List ℕ =
    (c.modified, c.modifier) in (m, (g.1.modified, not_set c.pw_changed m (g.0 ∙ eqb-true _ _ e)))))
    (λ others. refuse_field (λ c f. no_kind c.pw_changed kind f.0 other others)))

small_kind : (pw : Option ℕ) → first_kind pw < 2 ^ 16
small_kind None = omega arith
small_kind (Some secs) = omega arith

first_text : (pw : Option ℕ) (m : ℕ × List ℕ)
    → big 2 (first_kind pw) ++ behind_first pw m ≡ pw_text pw ++ tag 2 (modifier_text m)
unfolding pw_text tag
first_text None m = refl
first_text (Some secs) m = sym (append_assoc (big 2 1) (counted (little 4 secs)) (big 2 2 ++ counted (modifier_text m)))

pub changes_field : IsField changes_at changes AreChanges
unfolding changes_at changes
changes_field =
    same_field (first_field (big_field 2) (λ (c : Changes). first_kind c.pw_changed) (λ kind _. changes_of_field kind))
    (λ c f. (first_text c.pw_changed (c.modified, c.modifier), f.1))
    (λ c f. (small_kind c.pw_changed, f))

-- ---- the version of the master key

pub mkvno_field : IsField (tag_at 8 (whole version_at)) (λ n. tag 8 (little 2 n)) IsVersion
mkvno_field = same_field (tag_field 8 version_content)
    (λ n f. (refl, f.0))
    (λ n f. (f, omega (arith, length-little 2 n)))

-- ---- what K/M alone has

pub chain_part_field : IsField chain_part_at chain_part IsChain
unfolding chain_part_at chain_part
chain_part_field = same_field
    (first_field (tag_field 9 activations_content) (λ (c : ChainPart). c.activations) (λ activations _.
    last_field (tag_field 10 aux_keys_content) (λ (c : ChainPart). c.aux) (λ aux. record {
      activations = activations;
      aux = aux;
    }) (λ _ _. (refl, refl)) (λ c e. ap (λ (xs : List Activation). record { activations = xs; aux = c.aux }) (sym e))))
    (λ c f. (refl, record { activations = f.0.0; activations_short = f.0.1; aux = f.1.0; aux_short = f.1.1 }))
    (λ c f. ((f.activations, f.activations_short), (f.aux, f.aux_short)))

no_chain : (c : Option ChainPart) → is_some c ≡ false → c ≡ None
no_chain None e = refl
no_chain (Some c) e = absurd cc

one_chain : (c : Option ChainPart) → is_some c ≡ true → IsChainOr c → (x : ChainPart) × (IsChain x × (Some x ≡ c))
one_chain None e f = absurd cc
one_chain (Some c) e f = (c, (f, refl))

pub chain_field : (master : Bool) → IsField (chain_at master) chain_text (λ c. (is_some c ≡ master) × IsChainOr c)
unfolding chain_at chain_text
chain_field true = made_field chain_part_field Some
    (λ c f. (refl, (refl, f)))
    (λ c g. one_chain c g.0 g.1)
chain_field false =
    let none : Option ChainPart = None in
    same_field (done_field none)
    (λ c is. (ap chain_text (sym is), rw is (refl, tt)))
    (λ c f. no_chain c f.0)

-- ---- string attributes, which K/M never has

item_is : (list : List StringAttribute) → 0 < length list
    → (tag 11 (strings_text list) ≡ strings_item list) × (strings_count list ≡ 1)
unfolding strings_item
item_is [] some = absurd (omega arith)
item_is (a ∷ list) some = (refl, refl)

no_bytes : [] ≡ strings_item []
unfolding strings_item
no_bytes = refl

no_item : (list : List StringAttribute) → strings_count list ≡ 0 → list ≡ []
no_item [] e = refl
no_item (a ∷ list) e = absurd (omega arith)

one_item : (list : List StringAttribute) → strings_count list ≡ 1 → 0 < length list
one_item [] e = absurd (omega arith)
one_item (a ∷ list) e = omega arith

other_count : (master : Bool) (list : List StringAttribute) (before count : ℕ) → before + strings_count list ≡ count
    → (master ≡ true → list ≡ [])
    → nat_eq count before ≡ false → nat_eq count (before + 1) && not master ≡ false → ⊥
other_count master [] before count e none a b =
    let same : count ≡ before = omega arith in
    let t : nat_eq count before ≡ true = rw same (eq-eqb before before refl) in
    both_ways (nat_eq count before) a t
other_count true (x ∷ list) before count e none a b =
    let zero : length (x ∷ list) ≡ 0 = ap (λ (xs : List StringAttribute). length xs) (none refl) in
    absurd (omega arith)
other_count false (x ∷ list) before count e none a b =
    let t : nat_eq count (before + 1) && true ≡ true =
    rw (← e) (and_from (nat_eq (before + 1) (before + 1)) true (eq-eqb (before + 1) (before + 1) refl) refl) in
    both_ways (nat_eq count (before + 1) && true) b t

not_both : (master : Bool) → not master ≡ true → master ≡ true → ⊥
not_both true a b = absurd cc
not_both false a b = absurd cc

pub strings_item_field : (master : Bool) (before count : ℕ)
    → IsField (strings_item_at master before count) strings_item
    (λ list. (before + strings_count list ≡ count) × (AreStrings list × (master ≡ true → list ≡ [])))
unfolding strings_item_at
strings_item_field master before count =
    choice_field (nat_eq count before)
    (λ e. let same : count ≡ before = eqb-true _ _ e in
    let none : List StringAttribute = [] in
    same_field (done_field none)
    (λ list is. rw is (no_bytes, (omega arith, (no_strings, λ _. refl))))
    (λ list f. no_item list (omega (arith, f.0))))
    (λ other. choice_field (nat_eq count (before + 1) && not master)
    (λ e. let p = and_parts (nat_eq count (before + 1)) (not master) e in
    let same : count ≡ before + 1 = eqb-true _ _ p.0 in
    same_field (tag_field 11 strings_content)
    (λ list f. let is =
    item_is list f.0.1 in (is.0, (omega (arith, is.1), (f.0.0, λ m. absurd (not_both master p.1 m)))))
    (λ list g. let short = strings_short list g.1.0 in ((g.1.0, one_item list (omega (arith, g.0))), omega arith)))
    (λ others. refuse_field (λ list f. other_count master list before count f.0 f.1.1 other others)))

-- ---- the list

abbrev changes_in : Facts → Changes
changes_in f = record { pw_changed = f.pw_changed; modified = f.modified; modifier = f.modifier }

same_facts : (f : Facts) (c : Changes) (mkvno : ℕ) (chain : Option ChainPart) → changes_in f ≡ c → f.mkvno ≡ mkvno
    → f.chain ≡ chain
    → ◌≡◌ {A = Facts} (record {
      pw_changed = c.pw_changed;
      modified = c.modified;
      modifier = c.modifier;
      mkvno = mkvno;
      chain = chain;
      strings = f.strings;
    }) f
same_facts f c mkvno chain x y z = rw (← x, ← y, ← z) refl

few_items : (pw : Option ℕ) (list : List StringAttribute) (master : Bool)
    → base_of master + pw_len pw + strings_count list < 2 ^ 16
few_items None [] true = omega arith
few_items None [] false = omega arith
few_items (Some secs) [] true = omega arith
few_items (Some secs) [] false = omega arith
few_items None (a ∷ list) true = omega arith
few_items None (a ∷ list) false = omega arith
few_items (Some secs) (a ∷ list) true = omega arith
few_items (Some secs) (a ∷ list) false = omega arith

-- what is known of the items behind the changes
abbrev BehindChanges : Bool → ℕ → Facts → Type 0
BehindChanges master count f =
    IsVersion f.mkvno
    × (((is_some f.chain ≡ master) × IsChainOr f.chain)
    × ((base_of master + pw_len f.pw_changed + strings_count f.strings ≡ count)
    × (AreStrings f.strings × (master ≡ true → f.strings ≡ []))))

behind_changes_field : (master : Bool) (count : ℕ) (c : Changes) → IsField
    (tag_at 8 (whole version_at) >>= λ mkvno. chain_at master
    >>= λ chain. strings_item_at master (base_of master + pw_len c.pw_changed) count >>= λ strings. done (record {
      pw_changed = c.pw_changed;
      modified = c.modified;
      modifier = c.modifier;
      mkvno = mkvno;
      chain = chain;
      strings = strings;
    }))
    (λ f. tag 8 (little 2 f.mkvno) ++ (chain_text f.chain ++ strings_item f.strings))
    (λ f. (changes_in f ≡ c) × BehindChanges master count f)
behind_changes_field master count c = same_field
    (then_field {K = λ (f : Facts). changes_in f ≡ c} mkvno_field (λ (f : Facts). f.mkvno) (λ mkvno _.
    then_field (chain_field master) (λ (f : Facts). f.chain) (λ chain _.
    last_field (strings_item_field master (base_of master + pw_len c.pw_changed) count) (λ (f : Facts). f.strings)
    (λ strings. record {
      pw_changed = c.pw_changed;
      modified = c.modified;
      modifier = c.modifier;
      mkvno = mkvno;
      chain = chain;
      strings = strings;
    })
    (λ _ _. (refl, (refl, (refl, refl))))
    (λ f k. same_facts f c mkvno chain k.1.1 k.1.0 k.0))))
    (λ f g. (
      refl,
      (
        g.0,
        (
          g.1.0,
          (
            g.1.1.0,
            (
              ap (λ (d : Changes). base_of master + pw_len d.pw_changed + strings_count f.strings) g.0 ∙ g.1.1.1.0,
              g.1.1.1.1,
            ),
          ),
        ),
      ),
    ))
    (λ f g. (
      g.0,
      (
        g.1.0,
        (
          g.1.1.0,
          (
            ap (λ (d : Changes). base_of master + pw_len d.pw_changed + strings_count f.strings) (sym g.0) ∙ g.1.1.1.0,
            g.1.1.1.1,
          ),
        ),
      ),
    ))

items_field : (master : Bool) (count : ℕ) → IsField
    (changes_at >>= λ changes. tag_at 8 (whole version_at) >>= λ mkvno. chain_at master
    >>= λ chain. strings_item_at master (base_of master + pw_len changes.pw_changed) count >>= λ strings. done (record {
      pw_changed = changes.pw_changed;
      modified = changes.modified;
      modifier = changes.modifier;
      mkvno = mkvno;
      chain = chain;
      strings = strings;
    }))
    (λ f. pw_text f.pw_changed ++ (tag 2 (modifier_text (f.modified, f.modifier))
    ++ (tag 8 (little 2 f.mkvno) ++ (chain_text f.chain ++ strings_item f.strings))))
    (λ f. (count_of f ≡ count) × IsFacts master f)
unfolding changes
items_field master count = same_field
    (first_field changes_field changes_in (λ changes _. behind_changes_field master count changes))
    (λ f g.
    let there = g.1.1.0.0 in (
      append_assoc (pw_text f.pw_changed) (tag 2 (modifier_text (f.modified, f.modifier)))
          (tag 8 (little 2 f.mkvno) ++ (chain_text f.chain ++ strings_item f.strings)),
      (
        ap (λ (b : Bool). base_of b + pw_len f.pw_changed + strings_count f.strings) there ∙ g.1.1.1.0,
        record {
          pw_changed = g.0.pw_changed;
          modified = g.0.modified.secs;
          modifier = g.0.modified.name;
          mkvno = g.1.0;
          chain_there = there;
          chain = g.1.1.0.1;
          strings = g.1.1.1.1.0;
          no_strings = g.1.1.1.1.1;
        },
      ),
    ))
    (λ f g.
    let i = g.1 in (
      record { pw_changed = i.pw_changed; modified = record { secs = i.modified; name = i.modifier } },
      (
        i.mkvno,
        (
          (i.chain_there, i.chain),
          (
            ap (λ (b : Bool). base_of b + pw_len f.pw_changed + strings_count f.strings) (sym i.chain_there) ∙ g.0,
            (i.strings, i.no_strings),
          ),
        ),
      ),
    ))

pub facts_field : (master : Bool) → IsField (facts_at master) facts (IsFacts master)
unfolding facts_at facts
facts_field master = same_field
    (first_field (big_field 2) count_of (λ count _. items_field master count))
    (λ f g. (refl, g.1))
    (λ f g. (few_items f.pw_changed f.strings (is_some f.chain), g))

-- ---- heads of items

-- a head, and a content of its length
pub behind_head : (front : List ℕ) (kind len : ℕ) (bytes : List ℕ) → length bytes ≡ len
    → (front ++ head kind len) ++ bytes ≡ front ++ tag kind bytes
unfolding head tag counted
behind_head front kind len bytes e =
    append_assoc front (big 2 kind ++ big 2 len) bytes
    ∙ ap (λ (b : List ℕ). front ++ b) (append_assoc (big 2 kind) (big 2 len) bytes)
    ∙ ap (λ (n : ℕ). front ++ (big 2 kind ++ (big 2 n ++ bytes))) (sym e)
