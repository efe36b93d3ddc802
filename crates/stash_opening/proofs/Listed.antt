-- The first key of a stash whose version is listed.
use Rattle.std.proofs.Common.{◌≡◌, ◌≢◌, ℕ, ◌+◌, ◌<◌, ◌≤◌, Bool, true, false, List, []}
use Rattle.std.proofs.Common.{◌∷◌, length, get_or, drop, Option, Some, None, refl, sym, ap, ◌∙◌, arith}
use Rattle.std.specs.Prelude.{find, nat_eq, option_map}
use Rattle.std.specs.List.{All, AllByRecursion, Contains, list_any}
use Rattle.std.proofs.lemmas.Bool.{eq-eqb, ne_eqb}
use Rattle.std.proofs.lemmas.List.{drop_all, drop_more}
use Rattle.std.proofs.lemmas.List.Folds.{list_any_at}
use Rattle.std.proofs.lemmas.List.Elements.{recursion_from_All}
use Rattle.kdb_base.specs.declared.versions.Master.{Master}
use Rattle.master_keys.proofs.Chains.{found}
use Rattle.master_keys.specs.Chain.{HasVersion}
use Rattle.princ_keys.specs.declared.keys.KeyItem.{KeyItem}
use Rattle.princ_record.specs.declared.princs.Princ.{Princ}
use Rattle.stash_file.specs.declared.keys.StashKey.{StashKey}
use Rattle.stash_opening.specs.Finding.{first_listed, keys_in, lists, master_in}

-- ---- versions of K/M

no_version : (items : List KeyItem) (version : ℕ) → AllByRecursion (λ (k : KeyItem). k.kvno ≢ version) items
    → list_any (λ k. nat_eq k.kvno version) items ≡ false
no_version [] version h = refl
no_version (k ∷ items) version h = rw (ne_eqb k.kvno version h.0) (no_version items version h.1)

pub none_listed : (items : List KeyItem) (version : ℕ) → All (λ (k : KeyItem). k.kvno ≢ version) items
    → lists items version ≡ false
unfolding lists
none_listed items version h = no_version items version (recursion_from_All (λ (k : KeyItem). k.kvno ≢ version) items h)

some_version : (items : List KeyItem) (i : ℕ) (item : KeyItem) → i < length items → get_or items i item ≡ item
    → list_any (λ k. nat_eq k.kvno item.kvno) items ≡ true
some_version items i item lt is = list_any_at (λ (k : KeyItem). nat_eq k.kvno item.kvno) items i item lt
    (eq-eqb _ _ (ap (λ (k : KeyItem). k.kvno) is))

pub one_listed : (items : List KeyItem) (version : ℕ) (item : KeyItem) → Contains items item → item.kvno ≡ version
    → lists items version ≡ true
unfolding lists
one_listed items version item there is =
    ap (λ (n : ℕ). list_any (λ (k : KeyItem). nat_eq k.kvno n) items) (sym is) ∙ some_version items there.0
    item there.1 there.2

pub listed_has : (items : List KeyItem) (version : ℕ) → lists items version ≡ true → HasVersion items version
unfolding lists
listed_has items version e = found items items version true refl (sym e) refl

-- ---- keys of a stash

abbrev is_listed : List KeyItem → StashKey → Bool
is_listed items k = lists items k.version

-- a key whose version is not listed is passed over
pub passed_over : (items : List KeyItem) (keys : List StashKey) (i : ℕ) (k : StashKey) → i < length keys
    → k ≡ get_or keys i k
    → lists items k.version ≡ false
    → first_listed items (drop i keys) ≡ first_listed items keys
    → first_listed items (drop (i + 1) keys) ≡ first_listed items keys
unfolding first_listed
passed_over items keys i k lt is other h =
    let split : drop i keys ≡ k ∷ drop (i + 1) keys =
    drop_more keys i k lt ∙ ap (λ (x : StashKey). x ∷ drop (i + 1) keys) (sym is) in
    let here : find (is_listed items) (k ∷ drop (i + 1) keys) ≡ find (is_listed items) (drop (i + 1) keys) =
    rw other refl in
    ap (λ (o : Option StashKey). option_map master_in o) (sym here)
    ∙ ap (λ (ks : List StashKey). option_map master_in (find (is_listed items) ks))
    (sym split) ∙ h

-- the first one is found
pub found_here : (items : List KeyItem) (keys : List StashKey) (i : ℕ) (k : StashKey) → i < length keys
    → k ≡ get_or keys i k
    → lists items k.version ≡ true
    → first_listed items (drop i keys) ≡ first_listed items keys → Some (master_in k) ≡ first_listed items keys
unfolding first_listed
found_here items keys i k lt is listed h =
    let split : drop i keys ≡ k ∷ drop (i + 1) keys =
    drop_more keys i k lt ∙ ap (λ (x : StashKey). x ∷ drop (i + 1) keys) (sym is) in
    let here : find (is_listed items) (k ∷ drop (i + 1) keys) ≡ Some k = rw listed refl in
    ap (λ (o : Option StashKey). option_map master_in o) (sym here)
    ∙ ap (λ (ks : List StashKey). option_map master_in (find (is_listed items) ks))
    (sym split) ∙ h

-- none is
pub found_nowhere : (items : List KeyItem) (keys : List StashKey) (i : ℕ) → length keys ≤ i
    → first_listed items (drop i keys) ≡ first_listed items keys → None ≡ first_listed items keys
unfolding first_listed
found_nowhere items keys i le h =
    ap (λ (ks : List StashKey). option_map master_in (find (is_listed items) ks)) (sym (drop_all i keys le)) ∙ h

same_master : (a b : Master) → ◌≡◌ {A = Option Master} (Some a) (Some b) → a ≡ b
same_master a b e = cc

by_test : (items : List KeyItem) (k : StashKey) (keys : List StashKey) (m : Master) (b : Bool)
    → lists items k.version ≡ b
    → option_map master_in (find (is_listed items) (k ∷ keys)) ≡ Some m
    → (option_map master_in (find (is_listed items) keys) ≡ Some m → lists items m.version ≡ true)
    → lists items m.version ≡ true
by_test items k keys m true here e more =
    let first : option_map master_in (find (is_listed items) (k ∷ keys)) ≡ Some (master_in k) = rw here refl in
    let same : master_in k ≡ m = same_master (master_in k) m (sym first ∙ e) in
    ap (λ (x : Master). lists items x.version) (sym same) ∙ here
by_test items k keys m false other e more =
    let later : option_map master_in (find (is_listed items) (k ∷ keys))
    ≡ option_map master_in (find (is_listed items) keys) = rw other refl in
    more (sym later ∙ e)

-- what is found has a listed version
pub first_is_listed : (items : List KeyItem) (keys : List StashKey) (m : Master) → first_listed items keys ≡ Some m
    → lists items m.version ≡ true
unfolding first_listed
first_is_listed items [] m e = absurd cc
first_is_listed items (k ∷ keys) m e =
    by_test items k keys m (lists items k.version) refl e (λ f. first_is_listed items keys m f)

-- where K/M has no record, nothing is listed
pub nothing_listed : (keys : List StashKey) → first_listed [] keys ≡ None
unfolding first_listed lists
nothing_listed [] = refl
nothing_listed (k ∷ keys) = nothing_listed keys

pub none_without : (entry : Option Princ) (keys : List StashKey) → entry ≡ None
    → first_listed (keys_in entry) keys ≡ None
none_without None keys e = nothing_listed keys
none_without (Some own) keys e = absurd cc

pub found_with : (entry : Option Princ) (own : Princ) (items : List KeyItem) (keys : List StashKey)
    (found : Option Master) → entry ≡ Some own
    → items ≡ own.keys → found ≡ first_listed items keys
    → first_listed (keys_in entry) keys ≡ found
found_with entry own items keys found there same is =
    ap (λ (o : Option Princ). first_listed (keys_in o) keys) there
    ∙ ap (λ (xs : List KeyItem). first_listed xs keys) (sym same) ∙ sym is

-- ---- lists by their length

pub no_keys : (keys : List StashKey) → length keys < 1 → keys ≡ []
no_keys [] lt = refl
no_keys (k ∷ keys) lt = absurd (omega arith)

pub first_key : (keys : List StashKey) (k : StashKey) → 1 ≤ length keys → k ≡ get_or keys 0 k → keys ≡ k ∷ drop 1 keys
first_key [] k some is = absurd (omega arith)
first_key (x ∷ keys) k some is = ap (λ (y : StashKey). y ∷ keys) (sym is)

pub none_left : {A : Type 0} (o : Option A) → ((x : A) → o ≡ Some x → ⊥) → o ≡ None
none_left None never = refl
none_left (Some x) never = absurd (never x refl)
