-- Keys that were unwrapped are whole, so that a blob holds one key under them.
use Rattle.std.proofs.Common.{◌≡◌, ℕ, suc, ◌<◌, ◌^◌, Bool, true, List, [], ◌∷◌, ◌++◌, length, reverse}
use Rattle.std.proofs.Common.{Option, Some, None, refl, sym, ap, subst, ◌∙◌, inl, inr, arith}
use Rattle.std.specs.Prelude.{find, option_map}
use Rattle.std.specs.List.{AllByRecursion, AllZip, Contains}
use Rattle.std.proofs.lemmas.List.Elements.{All-contains, All-from_recursion, Contains-get_or, recursion_from_All}
use Rattle.std.proofs.lemmas.List.Sorted.{Contains-permutation, IsPermutation-reverse}
use Rattle.aes_cts.specs.BlockKeys.{AreBytes}
use Rattle.kdb_base.specs.Etypes.{key_len}
use Rattle.kdb_base.specs.Key.{Key}
use Rattle.kdb_base.specs.declared.keys.Etype.{Etype}
use Rattle.kdb_base.specs.declared.versions.Master.{Master}
use Rattle.master_keys.specs.Chain.{IsChain, IsKeyOf}
use Rattle.master_keys.specs.Wrapping.{Unwraps}
use Rattle.princ_record.specs.declared.princs.Princ.{Princ}
use Rattle.kdb_plain.specs.States.{is_version, master_of}
use Rattle.row_keys.proofs.Judgements.{same_key}
use Rattle.row_keys.proofs.Sides.{found_first, passed, truth}

-- as many bytes as the type asks
pub record IsWhole (k : Key) : Type 0 where
  pub long : length k.bytes ≡ key_len k.etype
  pub bytes : AreBytes k.bytes

-- a blob holds one key under a whole master key
abbrev pub HoldOneKey : Type 0
HoldOneKey = (master : Key) (etype : Etype) (blob : List ℕ) (one other : Key)
    → length master.bytes ≡ key_len master.etype → AreBytes master.bytes → Unwraps master etype blob one
    → Unwraps master etype blob other → one ≡ other

behind : {X : Type 0} (F : X → Type 0) (xs ys : List X) → AllByRecursion F (xs ++ ys) → AllByRecursion F ys
behind F [] ys h = h
behind F (x ∷ xs) ys h = behind F xs ys h.1

abbrev IsByte : ℕ → Type 0
IsByte b = b < 2 ^ 8

pub unwrapped_whole : {master : Key} {etype : Etype} {blob : List ℕ} (key : Key)
    → Unwraps master etype blob key → IsWhole key
unwrapped_whole key u = record {
  long = u.long ∙ ap key_len (sym u.of_type);
  bytes = All-from_recursion IsByte key.bytes (behind IsByte u.sealed.confounder key.bytes
      (recursion_from_All IsByte (u.sealed.confounder ++ key.bytes) u.sealed.bytes));
}

-- ---- what is found

pub find_there : {X : Type 0} (p : X → Bool) (xs : List X) (x : X) → find p xs ≡ Some x → Contains xs x × (p x ≡ true)
find_there p [] x e = absurd cc
find_there {X = X} p (y ∷ ys) x e =
    elim (truth (p y)) [
      | inl here ↦
          let same : y ≡ x = some_is y x (sym (found_first p y ys here) ∙ e) in (
            subst (λ (z : X). Contains (y ∷ ys) z) same (Contains-get_or (y ∷ ys) 0 y (omega arith)),
            subst (λ (z : X). p z ≡ true) same here,
          )
      | inr other ↦
          let more = find_there p ys x (sym (passed p y ys other) ∙ e) in
          let at = more.0 in
          let lt = at.1 in
          ((suc at.0, omega arith, at.2), more.1)
    ]
  where
    some_is : (a b : X) → ◌≡◌ {A = Option X} (Some a) (Some b) → a ≡ b
    some_is a b e = cc

-- ---- master keys of a chain

zip_seconds : {A B : Type 0} (R : A → B → Type 0) (G : B → Type 0) → ((x : A) (y : B) → R x y → G y)
    → (xs : List A) (ys : List B) → AllZip R xs ys → AllByRecursion G ys
zip_seconds R G to [] [] h = tt
zip_seconds R G to [] (y ∷ ys) h = absurd h
zip_seconds R G to (x ∷ xs) [] h = absurd h
zip_seconds R G to (x ∷ xs) (y ∷ ys) h = (to x y h.0, zip_seconds R G to xs ys h.1)

abbrev HasWhole : Master → Type 0
HasWhole m = IsWhole m.key

key_found : (masters : List Master) (version : ℕ) (key : Key) (o : Option Master)
    → find (is_version version) masters ≡ o → option_map (λ m. m.key) o ≡ Some key
    → (m : Master) × ((find (is_version version) masters ≡ Some m) × (m.key ≡ key))
key_found masters version key None is e = absurd cc
key_found masters version key (Some m) is e = (m, (is, same_key m.key key e))

pub listed_whole : (entry : Princ) (masters : List Master) (version : ℕ) (key : Key) → IsChain entry masters
    → master_of masters version ≡ Some key → IsWhole key
unfolding master_of
listed_whole entry masters version key chain named =
    let found = key_found masters version key (find (is_version version) masters) refl named in
    let m = found.0 in
    let there : Contains masters m = (find_there (is_version version) masters m found.1.0).0 in
    let back : Contains (reverse masters) m =
    Contains-permutation masters (reverse masters) m (IsPermutation-reverse masters) there in
    let all : AllByRecursion HasWhole (reverse masters) =
    zip_seconds (IsKeyOf chain.newest) HasWhole (λ item master f. unwrapped_whole master.key f.unwraps) entry.keys
    (reverse masters) chain.under.keys in
    subst IsWhole found.1.1
    (All-contains HasWhole (reverse masters) m (All-from_recursion HasWhole (reverse masters) all) back)
