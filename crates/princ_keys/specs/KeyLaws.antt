-- The format of keys agrees both ways.
use Rattle.std.proofs.Common.{◌≡◌, ℕ, ◌^◌, ◌<◌, Bool, true, false, leb, List, [], length, refl, sym, ap, ◌∙◌, arith}
use Rattle.std.specs.Prelude.{nat_eq, nat_lt}
use Rattle.std.proofs.lemmas.Bool.{and_parts, and_from, eqb-true, ltb-true, lt-ltb, leb-true, le-leb}
use Rattle.std.proofs.lemmas.List.{nil_from_length}
use Rattle.kdb_base.specs.declared.keys.Salt.{Salt}
use Rattle.kdb_base.specs.declared.keys.Salt.TheVariants.{Normal, Special}
use Rattle.kdb_base.specs.declared.keys.Etype.{Etype}
use Rattle.kdb_base.specs.Limits.{most_keys}
use Rattle.kdb_format.specs.EtypeLaws.{etype_field}
use Rattle.kdb_format.specs.Spellings.{counted}
use Rattle.kdb_format.specs.Fields.{IsField}
use Rattle.kdb_format.specs.Laws.{same_field, first_field, then_field, last_field, made_field, choice_field}
use Rattle.kdb_format.specs.Laws.{refuse_field, big_field, checked_field, counted_field, counted_list_field}
use Rattle.princ_keys.specs.declared.keys.KeyItem.{KeyItem}
use Rattle.princ_keys.specs.Keys.{salt_kind, salt_bytes, is_empty, salt_of, salt_at, salt, IsSalt}
use Rattle.princ_keys.specs.Keys.{key_at, key, IsKey, are_ordered, are_keys, keys_at, keys_text}
use Rattle.princ_keys.specs.Keys.{AreKeys, begins_at, are_falling, are_masters, AreMasters, fit_name}

-- ---- salts

is_normal : (s : Salt) → salt_kind s ≡ 0 → (s ≡ Normal)
is_normal Normal e = refl
is_normal (Special bytes) e = absurd (omega arith)

is_special : (s : Salt) → salt_kind s ≡ 4 → Special (salt_bytes s) ≡ s
is_special Normal e = absurd (omega arith)
is_special (Special bytes) e = refl

no_salt : (s : Salt) (kind : ℕ) → nat_eq kind 0 ≡ false → nat_eq kind 4 ≡ false → salt_kind s ≡ kind → ⊥
no_salt Normal kind a b e = absurd cc
no_salt (Special bytes) kind a b e = absurd cc

salt_of_field : (kind : ℕ) → IsField (salt_of kind) (λ s. counted (salt_bytes s)) (λ s. (salt_kind s ≡ kind) × IsSalt s)
unfolding salt_of
salt_of_field kind =
    choice_field (nat_eq kind 0)
    (λ e. made_field (checked_field is_empty counted_field) (λ (bytes : List ℕ). Normal)
    (λ bytes f.
    let none : bytes ≡ [] = nil_from_length bytes (eqb-true _ _ f.1) in
    (ap counted none, (sym (eqb-true _ _ e), record { short = omega arith })))
    (λ s g.
    let none : List ℕ = [] in
    (none, ((omega arith, refl), sym (is_normal s (g.0 ∙ eqb-true _ _ e))))))
    (λ other. choice_field (nat_eq kind 4)
    (λ e. made_field counted_field Special
    (λ bytes f. (refl, (sym (eqb-true _ _ e), record { short = f })))
    (λ s g. (salt_bytes s, (g.1.short, is_special s (g.0 ∙ eqb-true _ _ e)))))
    (λ others. refuse_field (λ s f. no_salt s kind other others f.0)))

small_kind : (s : Salt) → salt_kind s < 2 ^ 16
small_kind Normal = omega arith
small_kind (Special bytes) = omega arith

pub salt_field : IsField salt_at salt IsSalt
unfolding salt_at salt
salt_field = same_field (first_field (big_field 2) salt_kind (λ kind _. salt_of_field kind))
    (λ s f. (refl, f.1))
    (λ s f. (small_kind s, f))

-- ---- keys

same_key : (k : KeyItem) (kvno : ℕ) (etype : Etype) (salt : Salt) → k.kvno ≡ kvno → k.etype ≡ etype → k.salt ≡ salt
    → ◌≡◌ {A = KeyItem} (record { kvno = kvno; etype = etype; salt = salt; wrapped = k.wrapped }) k
same_key k kvno etype salt a b c = rw (← a, ← b, ← c) refl

pub key_field : IsField key_at key IsKey
unfolding key_at key
key_field = same_field
    (first_field (checked_field (nat_lt 0) (big_field 2)) (λ (k : KeyItem). k.kvno) (λ kvno _.
    then_field {K = λ (k : KeyItem). k.kvno ≡ kvno} etype_field (λ (k : KeyItem). k.etype) (λ etype _.
    then_field {K = λ (k : KeyItem). (k.etype ≡ etype) × (k.kvno ≡ kvno)} salt_field
    (λ (k : KeyItem). k.salt) (λ salt _.
    last_field {K = λ (k : KeyItem). (k.salt ≡ salt) × ((k.etype ≡ etype) × (k.kvno ≡ kvno))} counted_field
    (λ (k : KeyItem). k.wrapped) (λ wrapped. record { kvno = kvno; etype = etype; salt = salt; wrapped = wrapped })
    (λ _ _. (refl, (refl, (refl, refl))))
    (λ k e. same_key k kvno etype salt e.1.1 e.1.0 e.0)))))
    (λ k f. (refl, record { from_one = ltb-true _ _ f.0.1; kvno = f.0.0; salt = f.1.1.0; wrapped = f.1.1.1 }))
    (λ k f. ((f.kvno, lt-ltb _ _ f.from_one), (tt, (f.salt, f.wrapped))))

pub keys_field : IsField keys_at keys_text AreKeys
unfolding keys_at keys_text are_keys
keys_field = same_field (checked_field are_keys (counted_list_field 2 key_field))
    (λ keys f. let p = and_parts (leb (length keys) most_keys) (are_ordered keys) f.1 in
    (refl, record { few = leb-true _ _ p.0; each = f.0.1; ordered = p.1 }))
    (λ keys f. let few = f.few in (
      (omega arith, f.each),
      and_from (leb (length keys) most_keys) (are_ordered keys) (le-leb _ _ f.few) f.ordered,
    ))

-- ---- the keys of K/M

pub masters_from : (master : Bool) (version : ℕ) (keys : List KeyItem) → fit_name master version keys ≡ true
    → master ≡ true → AreMasters version keys
unfolding fit_name are_masters
masters_from true version keys e is =
    let p = and_parts (begins_at version keys) (are_falling keys) e in
    record { newest = p.0; falling = p.1 }
masters_from false version keys e is = absurd cc

pub masters_to : (master : Bool) (version : ℕ) (keys : List KeyItem) → (master ≡ true → AreMasters version keys)
    → fit_name master version keys ≡ true
unfolding fit_name are_masters
masters_to true version keys h =
    let f = h refl in
    and_from (begins_at version keys) (are_falling keys) f.newest f.falling
masters_to false version keys h = refl
