-- A version above the listed ones has no activation.
use Rattle.std.proofs.Common.{◌≡◌, ◌≢◌, ℕ, ◌+◌, ◌≤◌, List, [], ◌∷◌, ◌++◌, map}
use Rattle.std.proofs.Common.{Option, Some, None, refl, sym, ap, subst, ◌∙◌, arith}
use Rattle.std.specs.Prelude.{option_map}
use Rattle.std.specs.List.{All, AllByRecursion, Contains}
use Rattle.std.specs.List.Sorted.{IsStrictlySortedBy}
use Rattle.std.specs.Ordering.{nat_cmp}
use Rattle.std.specs.declared.cmp.Ordering.TheVariants.{Less}
use Rattle.std.proofs.lemmas.Cmp.{ranked}
use Rattle.std.proofs.lemmas.List.{map-append}
use Rattle.std.proofs.lemmas.List.Elements.{All-contains, All-from_recursion, recursion_from_All}
use Rattle.kdb_base.specs.Versions.{AreRising}
use Rattle.kdb_base.specs.declared.versions.Activation.{Activation}
use Rattle.kdb_base.specs.declared.versions.AuxKey.{AuxKey}
use Rattle.kdb_base.specs.declared.versions.Master.{Master}
use Rattle.princ_record.specs.declared.facts.ChainPart.{ChainPart}
use Rattle.princ_record.specs.declared.princs.Princ.{Princ}
use Rattle.master_keys.specs.Adding.{AreListed, IsInactive, activations_in, next_version, with_aux}
use Rattle.master_keys.specs.Chain.{IsChain}
use Rattle.master_keys.proofs.Live.{last_is_named}

pub same_activations : (aux : List AuxKey) (chain : Option ChainPart)
    → activations_in (option_map (with_aux aux) chain) ≡ activations_in chain
same_activations aux None = refl
same_activations aux (Some part) = refl

last_of_all : (P : ℕ → Type 0) (xs : List ℕ) (x : ℕ) → AllByRecursion P (xs ++ x ∷ []) → P x
last_of_all P [] x h = h.0
last_of_all P (y ∷ xs) x h = last_of_all P xs x h.1

-- the last of a list that rises is the greatest
rising_most : (xs : List ℕ) (x : ℕ) → AreRising (xs ++ x ∷ []) → AllByRecursion (λ v. v ≤ x) (xs ++ x ∷ [])
unfolding IsStrictlySortedBy
rising_most [] x h = (omega arith, tt)
rising_most (y ∷ xs) x h = let below =
    ranked y x Less (sym (last_of_all (λ (v : ℕ). nat_cmp y v ≡ Less) xs x h.0)) in (omega arith, rising_most xs x h.1)

listed_most : (entry : Princ) (masters : List Master) → IsChain entry masters
    → All (λ v. v ≤ entry.mkvno) (map (λ m. m.version) masters)
listed_most entry masters h =
    let version : Master → ℕ = λ (m : Master). m.version in
    let last : Master = record { version = entry.mkvno; key = h.newest } in
    let versions : map version masters ≡ map version h.under.older ++ entry.mkvno ∷ [] =
    ap (map version) h.under.masters_are ∙ map-append version h.under.older (last ∷ []) in
    let front = map version h.under.older in
    subst (λ (vs : List ℕ). All (λ v. v ≤ entry.mkvno) vs) (sym versions)
    (All-from_recursion (λ (v : ℕ). v ≤ entry.mkvno) (front ++ entry.mkvno ∷ [])
    (rising_most front entry.mkvno (subst AreRising versions h.under.rising)))

each_other : (versions : List ℕ) (most next : ℕ) → next ≡ most + 1 → All (λ v. v ≤ most) versions
    → (list : List Activation)
    → AllByRecursion (λ a. Contains versions a.version) list → AllByRecursion (λ a. a.version ≢ next) list
each_other versions most next e h [] f = tt
each_other versions most next e h (a ∷ list) f =
    let le : a.version ≤ most = All-contains (λ (v : ℕ). v ≤ most) versions a.version h f.0 in
    (λ same. omega arith, each_other versions most next e h list f.1)

pub next_inactive : (entry : Princ) (masters : List Master) (list : List Activation) → IsChain entry masters
    → AreListed masters list → IsInactive (next_version masters) list
unfolding next_version
next_inactive entry masters list h listed =
    let versions = map (λ (m : Master). m.version) masters in
    All-from_recursion (λ (a : Activation). a.version ≢ next_version masters) list
    (each_other versions entry.mkvno (next_version masters) (ap (λ (v : ℕ). v + 1) (last_is_named entry masters h))
    (listed_most entry masters h) list
    (recursion_from_All (λ (a : Activation). Contains versions a.version) list listed))
