-- Sound rows show a state that is valid at the seconds by which they are judged.
use Rattle.std.proofs.Common.{◌≡◌, ◌≢◌, ℕ, zero, suc, ◌<◌, ◌≤◌, Bool, true, List, [], ◌∷◌, ◌++◌, length}
use Rattle.std.proofs.Common.{map, get_or, Option, Some, None, refl, sym, ap, subst, ◌∙◌, inl, inr, arith}
use Rattle.std.specs.Prelude.{find, nat_eq, nat_lt, not, option_map, ◌&&◌}
use Rattle.std.specs.List.{All, AllByRecursion, AllZip, Contains, list_all}
use Rattle.std.proofs.lemmas.Bool.{and_from, and_parts, eqb-true, eq-eqb, le-leb, ltb-true, or_cases}
use Rattle.std.proofs.lemmas.List.Elements.{Contains-push, recursion_from_All}
use Rattle.kdb_base.specs.Etypes.{number_of}
use Rattle.kdb_base.specs.Key.{Key}
use Rattle.kdb_base.specs.Versions.{AreRising}
use Rattle.kdb_base.specs.declared.versions.Master.{Master}
use Rattle.master_keys.specs.Rewrapping.{HoldsOne}
use Rattle.master_keys.proofs.Chains.{one_master}
use Rattle.princ_rows.specs.EntryLaws.{same_bytes}
use Rattle.princ_keys.specs.declared.keys.KeyItem.{KeyItem}
use Rattle.princ_keys.specs.declared.remembered.OldSet.{OldSet}
use Rattle.princ_record.specs.declared.princs.Princ.{Princ}
use Rattle.kdb_plain.specs.Heads.{plain_of}
use Rattle.kdb_plain.specs.States.{HasHistory, HasItsPolicy, HasMasters, IsListed, IsValid, NeverRise}
use Rattle.kdb_plain.specs.States.{first_key, has_policy, history_key, history_name, is_version}
use Rattle.kdb_plain.specs.States.{master_in, master_of, never_rise, newest_version, princ_named}
use Rattle.kdb_plain.specs.States as plain
use Rattle.plain_keys.specs.declared.items.PlainItem.{PlainItem}
use Rattle.plain_keys.specs.declared.items.PlainSet.{PlainSet}
use Rattle.kdb_plain.specs.declared.princs.PlainPrinc.{PlainPrinc}
use Rattle.row_keys.specs.Formed.{are_ordered, may_follow}
use Rattle.row_keys.specs.Lookups.{has_name, record_named}
use Rattle.row_keys.specs.Shows.{ShowsItem, ShowsOldKey, ShowsPrinc, ShowsSet}
use Rattle.row_keys.specs.Sound.{AreHeldUnder, HoldsOldOne, OpensKeys}
use Rattle.row_keys.proofs.Sides.{truth}
use Rattle.row_keys.proofs.Whole.{find_there}

-- ---- lists made beside lists

pub zip_made : {A B : Type 0} (R : A → B → Type 0) (F : A → Type 0) → ((x : A) → F x → (y : B) × R x y) → (xs : List A)
    → AllByRecursion F xs → (ys : List B) × AllZip R xs ys
zip_made R F make [] h = ([], tt)
zip_made R F make (x ∷ xs) h =
    let one = make x h.0 in
    let rest = zip_made R F make xs h.1 in
    (one.0 ∷ rest.0, (one.1, rest.1))

pub zip_maps : {A B C : Type 0} (R : A → B → Type 0) (f : A → C) (g : B → C) → ((x : A) (y : B) → R x y → f x ≡ g y)
    → (xs : List A) (ys : List B) → AllZip R xs ys → map f xs ≡ map g ys
zip_maps R f g same [] [] h = refl
zip_maps R f g same [] (y ∷ ys) h = absurd h
zip_maps R f g same (x ∷ xs) [] h = absurd h
zip_maps {C = C} R f g same (x ∷ xs) (y ∷ ys) h =
    ap (λ (z : C). z ∷ map f xs) (same x y h.0) ∙ ap (λ (zs : List C). g y ∷ zs) (zip_maps R f g same xs ys h.1)

-- what stands beside one list in two ways
pub zip_join : {A B C : Type 0} (R : A → B → Type 0) (S : A → C → Type 0) (f : B → C)
    → ((x : A) (y : B) (z : C) → R x y → S x z → f y ≡ z) → (xs : List A) (ys : List B) (zs : List C) → AllZip R xs ys
    → AllZip S xs zs → map f ys ≡ zs
zip_join R S f same [] [] [] h k = refl
zip_join R S f same [] [] (z ∷ zs) h k = absurd k
zip_join R S f same [] (y ∷ ys) zs h k = absurd h
zip_join R S f same (x ∷ xs) [] zs h k = absurd h
zip_join R S f same (x ∷ xs) (y ∷ ys) [] h k = absurd k
zip_join {C = C} R S f same (x ∷ xs) (y ∷ ys) (z ∷ zs) h k = ap (λ (w : C). w ∷ map f ys) (same x y z h.0 k.0)
    ∙ ap (λ (ws : List C). z ∷ ws) (zip_join R S f same xs ys zs h.1 k.1)

-- ---- what is found

pub some_from : {A : Type 0} (o : Option A) → o ≢ None → (a : A) × (o ≡ Some a)
some_from None there = absurd (there refl)
some_from (Some a) there = (a, refl)

pub record_there : (name : List ℕ) (princs : List Princ) (p : Princ) → record_named name princs ≡ Some p
    → Contains princs p × (p.name ≡ name)
unfolding record_named
record_there name princs p e = let found =
    find_there (has_name name) princs p e in (found.0, same_bytes p.name name found.1)

-- ---- the master key of a version

find_none : {X : Type 0} (p : X → Bool) (xs : List X) (x : X) (i : ℕ) → i < length xs → get_or xs i x ≡ x → p x ≡ true
    → find p xs ≢ None
find_none p [] x i lt is passes e = absurd (omega arith)
find_none p (y ∷ ys) x zero lt is passes e = absurd (missing (first_is p y ys (ap p is ∙ passes)) e)
  where
    first_is : {X : Type 0} (p : X → Bool) (y : X) (ys : List X) → p y ≡ true → find p (y ∷ ys) ≡ Some y
    first_is p y ys here = rw here refl

    missing : {X : Type 0} {o : Option X} {y : X} → o ≡ Some y → o ≡ None → ⊥
    missing a b = let no_value = sym a ∙ b in absurd cc
find_none p (y ∷ ys) x (suc i) lt is passes e =
    elim (truth (p y)) [
      | inl here ↦ let first : find p (y ∷ ys) ≡ Some y = rw here refl in let no_value = sym first ∙ e in absurd cc
      | inr other ↦ let rest : find p (y ∷ ys) ≡ find p ys =
          rw other refl in find_none p ys x i (omega arith) is passes (sym rest ∙ e)
    ]

pub newest_named : (older : List Master) (version : ℕ) (key : Key) (masters : List Master)
    → masters ≡ older ++ record { version = version; key = key } ∷ [] → AreRising (map (λ m. m.version) masters)
    → master_of masters version ≡ Some key
unfolding master_of
newest_named older version key masters is rising =
    let m : Master = record { version = version; key = key } in
    let there : Contains masters m = subst (λ (ms : List Master). Contains ms m) (sym is) (Contains-push older m) in
    let found = some_from (find (is_version version) masters)
    (find_none (is_version version) masters m there.0 there.1 there.2 (eq-eqb version version refl)) in
    let is_found = find_there (is_version version) masters found.0 found.1 in
    let same : found.0 ≡ m = one_master masters rising found.0 m is_found.0 there (eqb-true _ _ is_found.1) in
    ap (option_map (λ m. m.key)) found.1 ∙ ap (λ (x : Master). Some x.key) same

-- ---- keys that never rise

never_from : (k : PlainItem) (later : List PlainItem) → list_all (may_follow k) later ≡ true
    → list_all (plain.may_follow k) later ≡ true
never_from k [] e = refl
never_from k (l ∷ later) e =
    let both = and_parts (may_follow k l) (list_all (may_follow k) later) e in
    and_from (plain.may_follow k l) (list_all (plain.may_follow k) later) (le-leb l.kvno k.kvno (below both.0))
    (never_from k later both.1)
  where
    below : may_follow k l ≡ true → l.kvno ≤ k.kvno
    below f =
        elim (or_cases (nat_lt l.kvno k.kvno)
        (nat_eq l.kvno k.kvno && not (nat_eq (number_of l.key.etype) (number_of k.key.etype))) f) [
          | inl lt ↦ let less = ltb-true _ _ lt in omega arith
          | inr eq ↦ let same = eqb-true _ _
              (and_parts (nat_eq l.kvno k.kvno) (not (nat_eq (number_of l.key.etype) (number_of k.key.etype))) eq).0 in
              omega arith
        ]

pub ordered_never_rise : (keys : List PlainItem) → are_ordered keys ≡ true → never_rise keys ≡ true
unfolding are_ordered never_rise
ordered_never_rise [] e = refl
ordered_never_rise (k ∷ keys) e =
    let both = and_parts (list_all (may_follow k) keys) (are_ordered keys) e in
    and_from (list_all (plain.may_follow k) keys) (never_rise keys) (never_from k keys both.0)
    (ordered_never_rise keys both.1)

-- ---- one record

item_made : (master : Key) (item : KeyItem) → HoldsOne master item → (k : PlainItem) × ShowsItem master item k
item_made master item h =
    (record { kvno = item.kvno; salt = item.salt; key = h.0 }, record { kvno = refl; salt = refl; holds = h.1 })

set_made : (history : Key) (kept : OldSet) → AreHeldUnder history kept → (s : PlainSet) × ShowsSet history kept s
set_made history kept h =
    let keys = zip_made (ShowsOldKey history) (HoldsOldOne history) (λ old held. held) kept.keys
    (recursion_from_All (HoldsOldOne history) kept.keys h) in
    (record { kvno = kept.kvno; keys = keys.0 }, record { kvno = refl; keys = keys.1 })

pub princ_made : (masters : List Master) (history : Key) (p : Princ) → OpensKeys masters p
    → All (AreHeldUnder history) p.old → (q : PlainPrinc) × ShowsPrinc masters history p q
princ_made masters history p o held =
    let keys = zip_made (ShowsItem o.master) (HoldsOne o.master) (item_made o.master) p.keys
    (recursion_from_All (HoldsOne o.master) p.keys o.keys) in
    let old = zip_made (ShowsSet history) (AreHeldUnder history) (set_made history) p.old
    (recursion_from_All (AreHeldUnder history) p.old held) in (
      plain_of p keys.0 old.0,
      record { master = o.master; named = o.named; under = record { fields = refl; keys = keys.1; old = old.1 } },
    )

pub one_item : (keys : List KeyItem) → length keys ≡ 1 → (item : KeyItem) × (keys ≡ item ∷ [])
one_item [] e = absurd (omega arith)
one_item (item ∷ []) e = (item, refl)
one_item (item ∷ next ∷ keys) e = absurd (omega arith)
