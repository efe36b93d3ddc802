-- Activations and auxiliary keys, by rising versions of the master key.
use Rattle.std.proofs.Common.{◌≡◌, ℕ, ◌+◌, ◌*◌, ◌^◌, ◌<◌, List, [], ◌∷◌, ◌++◌}
use Rattle.std.proofs.Common.{length, map, Option, refl, sym, ap, ◌∙◌, arith}
use Rattle.std.specs.List.{All, flat_map, sum_by}
use Rattle.std.proofs.lemmas.List.{length-append}
use Rattle.std.proofs.lemmas.List.Sums.{sum_by-cons}
use Rattle.kdb_base.specs.Etypes.{number_of}
use Rattle.kdb_base.specs.Versions.{AreRising}
use Rattle.kdb_base.specs.declared.keys.Etype.{Etype}
use Rattle.kdb_base.specs.declared.versions.Activation.{Activation}
use Rattle.kdb_base.specs.declared.versions.AuxKey.{AuxKey}
use Rattle.kdb_format.specs.Etypes.{etype_le_at, etype_le_text}
use Rattle.kdb_format.specs.EtypeLaws.{etype_le_field}
use Rattle.kdb_format.specs.Readings.{Reading, ◌>>=◌, done, little_at, bytes_at}
use Rattle.kdb_format.specs.Spellings.{little}
use Rattle.kdb_format.specs.Numbers.{length-little}
use Rattle.kdb_format.specs.Fields.{IsField}
use Rattle.kdb_format.specs.Laws.{same_field, first_field, then_field, last_field, little_field, bytes_field}
use Rattle.tagged_data.specs.Contents.{IsContent, items_of, items_content, same_content, in_order, in_order_content}
use Rattle.tagged_data.specs.Numbers.{version_at, IsVersion, version_field}

-- ---- activations

-- a version, and its seconds since 1970
unfoldable pub activation_at : Reading Activation
activation_at = do
  version ← version_at
  secs ← little_at 4
  done (record { version = version; secs = secs })

unfoldable pub activation : Activation → List ℕ
activation a = little 2 a.version ++ little 4 a.secs

pub record IsActivation (a : Activation) : Type 0 where
  pub version : IsVersion a.version
  pub secs : a.secs < 2 ^ 32

pub activation_field : IsField activation_at activation IsActivation
unfolding activation_at activation
activation_field = same_field
    (first_field version_field (λ (a : Activation). a.version) (λ version _.
    last_field (little_field 4) (λ (a : Activation). a.secs) (λ secs. record { version = version; secs = secs })
    (λ _ _. (refl, refl)) (λ a k. ap (λ (n : ℕ). record { version = n; secs = a.secs }) (sym k))))
    (λ a f. (refl, record { version = f.0; secs = f.1 }))
    (λ a f. (f.version, f.secs))

unfoldable pub activations_at : List ℕ → Option (List Activation)
activations_at = in_order (λ a. a.version) (items_of activation_at)

unfoldable pub activations_text : List Activation → List ℕ
activations_text list = flat_map activation list

pub record AreActivations (list : List Activation) : Type 0 where
  pub each : All IsActivation list
  pub rising : AreRising (map (λ a. a.version) list)

length-activation : (a : Activation) → length (activation a) ≡ 6
unfolding activation
length-activation a = omega
    (arith, length-append (little 2 a.version) (little 4 a.secs), length-little 2 a.version, length-little 4 a.secs)

pub length-activations_text : (list : List Activation) → length (activations_text list) ≡ 6 * length list
unfolding activations_text
length-activations_text [] = refl
length-activations_text (a ∷ list) = omega
    (arith, length-append (activation a) (flat_map activation list), length-activation a, length-activations_text list)

pub activations_content : IsContent activations_at activations_text AreActivations
unfolding activations_at activations_text
activations_content = same_content (in_order_content (λ (a : Activation). a.version)
    (items_content activation_field (λ a _. omega (arith, length-activation a))))
    (λ list f. record { each = f.0; rising = f.1 })
    (λ list f. (f.each, f.rising))

-- ---- auxiliary keys

-- a length, and that many bytes
unfoldable pub wrapped_at : Reading (List ℕ)
wrapped_at = do
  n ← little_at 2
  bytes_at n

unfoldable pub wrapped_text : List ℕ → List ℕ
wrapped_text bytes = little 2 (length bytes) ++ bytes

pub wrapped_field : IsField wrapped_at wrapped_text (λ bytes. length bytes < 2 ^ 16)
unfolding wrapped_at wrapped_text
wrapped_field =
    let text : (n : ℕ) → n < 2 ^ 16 → IsField (bytes_at n) (λ xs. xs) (λ xs. (length xs ≡ n) × Unit {0}) =
    λ n lt. same_field (bytes_field n) (λ xs e. (refl, (e, tt))) (λ xs f. f.0) in
    same_field (first_field (little_field 2) (length {A = ℕ}) text) (λ xs f. (refl, f.0)) (λ xs lt. (lt, tt))

-- a version, the newest key's type, and the newest key wrapped under that version's
unfoldable pub aux_key_at : Reading AuxKey
aux_key_at = do
  version ← version_at
  etype ← etype_le_at
  wrapped ← wrapped_at
  done (record { version = version; etype = etype; wrapped = wrapped })

unfoldable pub aux_key : AuxKey → List ℕ
aux_key k = little 2 k.version ++ (etype_le_text k.etype ++ wrapped_text k.wrapped)

pub record IsAuxKey (k : AuxKey) : Type 0 where
  pub version : IsVersion k.version
  pub wrapped : length k.wrapped < 2 ^ 16

same_key : (k : AuxKey) (version : ℕ) (etype : Etype) → k.version ≡ version → k.etype ≡ etype
    → ◌≡◌ {A = AuxKey} (record { version = version; etype = etype; wrapped = k.wrapped }) k
same_key k version etype v e =
    let made : ℕ → Etype → AuxKey = λ (n : ℕ) (t : Etype). record { version = n; etype = t; wrapped = k.wrapped } in
    ap (λ (n : ℕ). made n etype) (sym v) ∙ ap (λ (t : Etype). made k.version t) (sym e)

pub aux_key_field : IsField aux_key_at aux_key IsAuxKey
unfolding aux_key_at aux_key
aux_key_field = same_field
    (first_field version_field (λ (k : AuxKey). k.version) (λ version _.
    then_field {K = λ (k : AuxKey). k.version ≡ version} etype_le_field (λ (k : AuxKey). k.etype) (λ etype _.
    last_field {K = λ (k : AuxKey). (k.etype ≡ etype) × (k.version ≡ version)} wrapped_field (λ (k : AuxKey). k.wrapped)
    (λ wrapped. record { version = version; etype = etype; wrapped = wrapped })
    (λ _ _. (refl, (refl, refl)))
    (λ k e. same_key k version etype e.1 e.0))))
    (λ k f. (refl, record { version = f.0; wrapped = f.1.1 }))
    (λ k f. (f.version, (tt, f.wrapped)))

unfoldable pub aux_keys_at : List ℕ → Option (List AuxKey)
aux_keys_at = in_order (λ k. k.version) (items_of aux_key_at)

unfoldable pub aux_keys_text : List AuxKey → List ℕ
aux_keys_text list = flat_map aux_key list

pub record AreAuxKeys (list : List AuxKey) : Type 0 where
  pub each : All IsAuxKey list
  pub rising : AreRising (map (λ k. k.version) list)

length-aux_key : (k : AuxKey) → length (aux_key k) ≡ 6 + length k.wrapped
unfolding aux_key etype_le_text wrapped_text
length-aux_key k =
    omega (
      arith,
      length-append (little 2 k.version) (little 2 (number_of k.etype) ++ (little 2 (length k.wrapped) ++ k.wrapped)),
      length-append (little 2 (number_of k.etype)) (little 2 (length k.wrapped) ++ k.wrapped),
      length-append (little 2 (length k.wrapped)) k.wrapped,
      length-little 2 k.version,
      length-little 2 (number_of k.etype),
      length-little 2 (length k.wrapped),
    )

pub length-aux_keys_text : (list : List AuxKey) → length (aux_keys_text list) ≡ sum_by (λ k. 6 + length k.wrapped) list
unfolding aux_keys_text
length-aux_keys_text [] = refl
length-aux_keys_text (k ∷ list) =
    let f : AuxKey → ℕ = λ (k : AuxKey). 6 + length k.wrapped in
    let one : sum_by f (k ∷ list) ≡ f k + sum_by f list = sum_by-cons f k list in
    omega (arith, one, length-append (aux_key k) (flat_map aux_key list), length-aux_key k, length-aux_keys_text list)

pub aux_keys_content : IsContent aux_keys_at aux_keys_text AreAuxKeys
unfolding aux_keys_at aux_keys_text
aux_keys_content = same_content (in_order_content (λ (k : AuxKey). k.version)
    (items_content aux_key_field (λ k _. omega (arith, length-aux_key k))))
    (λ list f. record { each = f.0; rising = f.1 })
    (λ list f. (f.each, f.rising))
