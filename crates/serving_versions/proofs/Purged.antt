-- The versions that serve, and those that do not.
use Rattle.std.proofs.Common.{◌≡◌, ℕ, Bool, true, false, ◌&&◌, List, [], ◌∷◌, map, Some}
use Rattle.std.proofs.Common.{None, refl, sym, ap, ◌∙◌, ◌⊎◌, inl, inr, eqb-true, eq-eqb}
use Rattle.std.specs.Prelude.{◌||◌, filter, is_some, nat_eq, nat_lt, not, if◌then◌else◌}
use Rattle.std.specs.List.{AllByRecursion, list_any}
use Rattle.std.proofs.lemmas.Map.Views.{any-filter_same}
use Rattle.kdb_base.specs.declared.versions.Master.{Master}
use Rattle.std.specs.Ordering.{nat_cmp}
use Rattle.std.proofs.lemmas.List.Kept.{IsStrictlySortedBy-filter}
use Rattle.kdb_base.specs.Versions.{AreRising}
use Rattle.master_keys.specs.Purging.{live_masters}
use Rattle.master_keys.specs.Versions.{is_live, last_version}
use Rattle.serving_versions.specs.Versions.{cause_from, cause_of, dead_versions, is_active_at}
use Rattle.serving_versions.specs.Versions.{is_pending, protected_by, serves, serving_masters}
use Rattle.kdb_plain.specs.declared.states.State.{State}

truth : (b : Bool) → (b ≡ true) ⊎ (b ≡ false)
truth true = inl refl
truth false = inr refl

-- where the third of four tests holds, some cause is given
some_cause : {A : Type 0} (a b c d : Bool) (w x y z : A) → c ≡ true
    → is_some (if a then Some w else if b then Some x else if c then Some y else if d then Some z else None) ≡ true
some_cause true b c d w x y z e = refl
some_cause false true c d w x y z e = refl
some_cause false false true d w x y z e = refl
some_cause false false false d w x y z e = absurd cc

pub newest_serves : (s : State) (secs : ℕ) → serves s secs (last_version s.masters) ≡ true
unfolding cause_of cause_from
newest_serves s secs =
    let version = last_version s.masters in
    some_cause (nat_lt 0 (protected_by s.realm s.princs version)) (is_active_at s.activations secs version)
    (nat_eq version version) (is_pending s.activations secs version)
    _ _ _ _ (eq-eqb version version refl)

pub dead_rise : (s : State) (secs : ℕ) → AreRising (map (λ (m : Master). m.version) s.masters)
    → AreRising (dead_versions s secs)
unfolding dead_versions
dead_rise s secs rising = IsStrictlySortedBy-filter nat_cmp (λ version. not (serves s secs version))
    (map (λ (m : Master). m.version) s.masters) rising

or_second : (a b : Bool) → b ≡ true → (a || b) ≡ true
or_second true b e = refl
or_second false b e = e

or_first : (a b : Bool) → a ≡ true → (a || b) ≡ true
or_first true b e = refl
or_first false b e = absurd cc

twice : (b c : Bool) → c ≡ true → not (not b && c) ≡ b
twice true c e = refl
twice false true e = refl
twice false false e = absurd cc

same_filter : {X : Type 0} (p q : X → Bool) (xs : List X) → AllByRecursion (λ x. p x ≡ q x) xs
    → filter p xs ≡ filter q xs
same_filter p q [] h = refl
same_filter p q (x ∷ xs) h =
    elim (truth (q x)) [
      | inl e ↦
          let p_is = h.0 ∙ e in
          let here : filter p (x ∷ xs) ≡ x ∷ filter p xs = rw p_is refl in
          let there : filter q (x ∷ xs) ≡ x ∷ filter q xs = rw e refl in
          here ∙ ap (λ ys. x ∷ ys) (same_filter p q xs h.1) ∙ sym there
      | inr e ↦
          let p_is = h.0 ∙ e in
          let here : filter p (x ∷ xs) ≡ filter p xs = rw p_is refl in
          let there : filter q (x ∷ xs) ≡ filter q xs = rw e refl in
          here ∙ same_filter p q xs h.1 ∙ sym there
    ]

abbrev IsIn : List ℕ → ℕ → Type 0
IsIn versions version = list_any (λ d. nat_eq d version) versions ≡ true

module _ (s : State) (secs : ℕ) where
  abbrev Dead : List ℕ → List ℕ
  Dead versions = filter (λ version. not (serves s secs version)) versions

  dead_test : (version : ℕ) (versions : List ℕ) → list_any (λ d. nat_eq d version) (Dead versions)
      ≡ (not (serves s secs version) && list_any (λ d. nat_eq d version) versions)
  dead_test version versions =
      any-filter_same (λ d. nat_eq d version) (λ d. not (serves s secs d)) (not (serves s secs version))
      (λ d e. ap (λ n. not (serves s secs n)) (eqb-true d version e)) versions

  live_is : (version : ℕ) (versions : List ℕ) → IsIn versions version
      → is_live (Dead versions) version ≡ serves s secs version
  unfolding is_live
  live_is version versions there =
      ap not (dead_test version versions)
      ∙ twice (serves s secs version) (list_any (λ d. nat_eq d version) versions) there

  each_live : (masters : List Master) (versions : List ℕ)
      → ((v : ℕ) → IsIn (map (λ (m : Master). m.version) masters) v → IsIn versions v)
      → AllByRecursion (λ (m : Master). is_live (Dead versions) m.version ≡ serves s secs m.version) masters
  each_live [] versions into = tt
  each_live (m ∷ masters) versions into =
      let first = or_first (nat_eq m.version m.version) (list_any (λ d. nat_eq d m.version)
      (map (λ (o : Master). o.version) masters)) (eq-eqb m.version m.version refl) in (
        live_is m.version versions (into m.version first),
        each_live masters versions (λ v e. into v
            (or_second (nat_eq m.version v) (list_any (λ d. nat_eq d v) (map (λ (o : Master). o.version) masters)) e)),
      )

  pub purged_serving : live_masters (dead_versions s secs) s.masters ≡ serving_masters s secs
  unfolding live_masters dead_versions serving_masters
  purged_serving =
      let versions = map (λ (m : Master). m.version) s.masters in
      same_filter (λ (m : Master). is_live (Dead versions) m.version)
      (λ (m : Master). serves s secs m.version) s.masters (each_live s.masters versions (λ v e. e))
