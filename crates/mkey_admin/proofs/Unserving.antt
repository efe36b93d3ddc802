-- Versions that do not serve, among those that are listed.
use Rattle.std.proofs.Common.{◌≡◌, ◌≢◌, ℕ, zero, suc, ◌<◌, Bool, true, false, List, [], ◌∷◌, ◌++◌, length, map, reverse}
use Rattle.std.proofs.Common.{Some, None, get_or, refl, sym, ap, subst, ◌∙◌, ◌⊎◌, inl, inr, arith, eqb-true, eq-eqb}
use Rattle.std.specs.Prelude.{◌&&◌, filter, is_none, nat_eq, nat_lt, not, option_map, if◌then◌else◌}
use Rattle.std.specs.List.{AllByRecursion, Contains, list_any}
use Rattle.std.specs.Str.{bytes_eq}
use Rattle.std.proofs.lemmas.List.{reverse-append}
use Rattle.std.proofs.lemmas.List.Elements.{All-contains_itself}
use Rattle.std.proofs.lemmas.Map.Views.{any-filter_same}
use Rattle.kadm_commands.specs.declared.versions.PurgeRow.{PurgeRow}
use Rattle.kdb_base.specs.declared.versions.Activation.{Activation}
use Rattle.kdb_base.specs.declared.versions.Master.{Master}
use Rattle.kdb_plain.specs.States.{IsListed, is_version, master_in, master_of}
use Rattle.kdb_plain.specs.declared.princs.PlainPrinc.{PlainPrinc}
use Rattle.kdb_plain.specs.declared.states.State.{State}
use Rattle.master_keys.specs.First.{master_name}
use Rattle.master_keys.specs.Versions.{is_live, last_version}
use Rattle.mkey_admin.specs.Told.{Grounds, dead_told, is_dead, version_told, versions_told}
use Rattle.plain_keys.specs.declared.items.PlainItem.{PlainItem}
use Rattle.princ_rows.specs.EntryLaws.{bytes_same, same_bytes}
use Rattle.row_keys.proofs.Sides.{kept, left_out, truth}
use Rattle.row_keys.specs.Lookups.{records_under}
use Rattle.serving_versions.proofs.Causes.{serves_where}
use Rattle.serving_versions.proofs.Kept.{find_kept}
use Rattle.serving_versions.specs.Versions.{cause_from, dead_versions, is_active_at}
use Rattle.serving_versions.specs.Versions.{is_pending, serves, serving_masters}
use Rattle.serving_versions.specs.declared.serving.Cause.TheVariants.{Active, Newest, Pending, Protects}

-- ---- the newest version serves, by whatever it is judged

newest_by : (a b c d : Bool) (count : ℕ) → c ≡ true
    → is_none (if a then Some (Protects count) else if b then Some Active else if c then Some Newest else if d
    then Some Pending else None) ≡ false
newest_by true b c d count e = refl
newest_by false true c d count e = refl
newest_by false false true d count e = refl
newest_by false false false d count e = absurd cc

newest_stays : (count : ℕ) (masters : List Master) (activations : List Activation) (secs : ℕ)
    → is_none (cause_from count masters activations secs (last_version masters)) ≡ false
unfolding cause_from
newest_stays count masters activations secs =
    newest_by (nat_lt 0 count) (is_active_at activations secs (last_version masters))
    (nat_eq (last_version masters) (last_version masters)) (is_pending activations secs (last_version masters)) count
    (eq-eqb (last_version masters) (last_version masters) refl)

first_or_later : (x n : ℕ) (xs : List ℕ) → Contains (x ∷ xs) n → (x ≡ n) ⊎ Contains xs n
first_or_later x n xs (zero, lt, is) = inl is
first_or_later x n xs (suc k, lt, is) = inr (k, omega arith, is)

none_here : (n : ℕ) → Contains [] n → ⊥
none_here n (k, lt, is) = absurd (omega arith)

module _ (v : Grounds) where
  dead_is : (masters : List Master) (n : ℕ)
      → Contains (map (λ (row : PurgeRow). row.version) (filter is_dead (map (version_told v) masters))) n
      → is_none (cause_from (records_under v.realm v.princs n) v.masters v.activations v.secs n) ≡ true
  dead_is [] n is = absurd (none_here n is)
  dead_is (m ∷ masters) n is =
      let rest = map (version_told v) masters in
      elim (truth (is_dead (version_told v m))) [
        | inl e ↦
            elim (first_or_later m.version n (map (λ (row : PurgeRow). row.version) (filter is_dead rest))
            (subst (λ (rows : List PurgeRow). Contains (map (λ (row : PurgeRow). row.version) rows) n)
            (kept is_dead (version_told v m) rest e) is)) [
              | inl here ↦
                  subst (λ w. is_none (cause_from (records_under v.realm v.princs w) v.masters v.activations v.secs w)
                  ≡ true) here e
              | inr later ↦ dead_is masters n later
            ]
        | inr e ↦ dead_is masters n
            (subst (λ (rows : List PurgeRow). Contains (map (λ (row : PurgeRow). row.version) rows) n)
            (left_out is_dead (version_told v m) rest e) is)
      ]

  pub newest_lives : Contains (dead_told (versions_told v)) (last_version v.masters) → ⊥
  unfolding dead_told versions_told
  newest_lives is =
      let dead = dead_is v.masters (last_version v.masters) is in
      let lives =
      newest_stays (records_under v.realm v.princs (last_version v.masters)) v.masters v.activations v.secs in
      both_not _ dead lives
    where
      both_not : (b : Bool) → b ≡ true → b ≡ false → ⊥
      both_not b t f = cc

-- ---- listed versions

abbrev pub IsIn : List ℕ → ℕ → Type 0
IsIn versions version = list_any (λ d. nat_eq d version) versions ≡ true

or_first : (a b : Bool) → a ≡ true → (if a then true else b) ≡ true
or_first true b e = refl
or_first false b e = absurd cc

abbrev versions_in : List Master → List ℕ
versions_in masters = map (λ (m : Master). m.version) masters

listed_in : (masters : List Master) (version : ℕ) → IsListed masters version → IsIn (versions_in masters) version
unfolding master_of
listed_in [] version e = absurd cc
listed_in (m ∷ masters) version e =
    elim (truth (nat_eq m.version version)) [
      | inl here ↦ rw here refl
      | inr other ↦ rw other (listed_in masters version (rw other at e))
    ]

-- each master key is listed among all
each_listed : (P : ℕ → Type 0) (masters : List Master) → ((v : ℕ) → IsIn (versions_in masters) v → P v)
    → AllByRecursion (λ (m : Master). P m.version) masters
each_listed P [] into = tt
each_listed P (m ∷ masters) into =
    let here : IsIn (versions_in (m ∷ masters)) m.version =
    (let same = eq-eqb m.version m.version refl in rw same refl) in
    (into m.version here, each_listed P masters (λ v e. into v (later v e)))
  where
    later : (v : ℕ) → IsIn (versions_in masters) v → IsIn (versions_in (m ∷ masters)) v
    later v e =
        elim (truth (nat_eq m.version v)) [
          | inl h ↦ rw h refl
          | inr h ↦ rw h e
        ]

push_each : {A : Type 0} (F : A → Type 0) (xs : List A) (x : A) → AllByRecursion F xs → F x
    → AllByRecursion F (xs ++ x ∷ [])
push_each F [] x h p = (p, tt)
push_each F (y ∷ xs) x h p = (h.0, push_each F xs x h.1 p)

each_behind : {A : Type 0} (F : A → Type 0) (xs : List A) → AllByRecursion F xs → AllByRecursion F (reverse xs)
each_behind F [] h = tt
each_behind F (x ∷ xs) h =
    subst (AllByRecursion F) (sym (reverse-append (x ∷ []) xs)) (push_each F (reverse xs) x (each_behind F xs h.1) h.0)

each_key : (P : ℕ → Type 0) (keys : List PlainItem) (masters : List Master) → map master_in keys ≡ masters
    → AllByRecursion (λ (m : Master). P m.version) masters → AllByRecursion (λ (k : PlainItem). P k.kvno) keys
each_key P [] masters e h = tt
each_key P (k ∷ keys) [] e h = absurd cc
each_key P (k ∷ keys) (m ∷ masters) e h =
    let here : k.kvno ≡ m.version = first_same e in
    (subst P (sym here) h.0, each_key P keys masters (rest_same e) h.1)
  where
    first_same : ◌≡◌ {A = List Master} (master_in k ∷ map master_in keys) (m ∷ masters) → k.kvno ≡ m.version
    first_same e = ap (λ (ms : List Master). version_first ms) e
      where
        version_first : List Master → ℕ
        version_first [] = 0
        version_first (x ∷ xs) = x.version

    rest_same : ◌≡◌ {A = List Master} (master_in k ∷ map master_in keys) (m ∷ masters) → map master_in keys ≡ masters
    rest_same e = cc

-- ---- in a state

twice : (b c : Bool) → c ≡ true → not (not b && c) ≡ b
twice true c e = refl
twice false true e = refl
twice false false e = absurd cc

module _ (s : State) (secs : ℕ) where
  abbrev dead : List ℕ
  dead = dead_versions s secs

  -- of listed versions, those that serve are live
  live_is : (version : ℕ) → IsIn (versions_in s.masters) version → is_live dead version ≡ serves s secs version
  unfolding is_live dead_versions
  live_is version is_in =
      ap not (any-filter_same (λ d. nat_eq d version) (λ d. not (serves s secs d)) (not (serves s secs version))
      (λ d e. ap (λ n. not (serves s secs n)) (eqb-true d version e)) (versions_in s.masters))
      ∙ twice (serves s secs version) (list_any (λ d. nat_eq d version) (versions_in s.masters)) is_in

  pub live_listed : (version : ℕ) → IsListed s.masters version → is_live dead version ≡ serves s secs version
  live_listed version listed = live_is version (listed_in s.masters version listed)

  pub live_keys : (keys : List PlainItem) → map master_in keys ≡ reverse s.masters
      → AllByRecursion (λ (k : PlainItem). is_live dead k.kvno ≡ serves s secs k.kvno) keys
  live_keys keys e =
      each_key (λ v. is_live dead v ≡ serves s secs v) keys (reverse s.masters) e
      (each_behind (λ (m : Master). is_live dead m.version ≡ serves s secs m.version) s.masters
      (each_listed (λ v. is_live dead v ≡ serves s secs v) s.masters live_is))

  -- a version that serves keeps its key
  pub serving_named : (version : ℕ) → serves s secs version ≡ true
      → master_of (serving_masters s secs) version ≡ master_of s.masters version
  unfolding master_of serving_masters
  serving_named version serving =
      ap (option_map (λ (m : Master). m.key)) (find_kept (is_version version) (λ (m : Master). serves s secs m.version)
      (λ m e. ap (serves s secs) (eqb-true m.version version e) ∙ serving) s.masters)

  -- the version of another principal than K/M serves
  pub under_serves : (k : ℕ) (d : PlainPrinc) → k < length s.princs
      → ((get_or s.princs k d).name ≡ master_name s.realm) ⊎ (serves s secs (get_or s.princs k d).mkvno ≡ true)
  under_serves k d lt =
      let q = get_or s.princs k d in
      let at = All-contains_itself s.princs k d lt in
      elim (truth (bytes_eq q.name (master_name s.realm))) [
        | inl same ↦ inl (same_bytes q.name (master_name s.realm) same)
        | inr other ↦ inr ((serves_where s secs q.mkvno).1 (inl (
          at.0,
          q,
          at.1,
          at.2,
          (refl, differ q.name (master_name s.realm) other),
        )))
      ]
    where
      differ : (a b : List ℕ) → bytes_eq a b ≡ false → a ≢ b
      differ a b different e = let same = bytes_same a b e in absurd cc

pub same_filter : {X : Type 0} (p q : X → Bool) (xs : List X) → AllByRecursion (λ x. p x ≡ q x) xs
    → filter p xs ≡ filter q xs
same_filter p q [] h = refl
same_filter p q (x ∷ xs) h =
    elim (truth (q x)) [
      | inl e ↦ kept p x xs (h.0 ∙ e) ∙ ap (λ ys. x ∷ ys) (same_filter p q xs h.1) ∙ sym (kept q x xs e)
      | inr e ↦ left_out p x xs (h.0 ∙ e) ∙ same_filter p q xs h.1 ∙ sym (left_out q x xs e)
    ]
