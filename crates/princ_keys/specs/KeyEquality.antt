-- The comparison of keys.
use Rattle.std.proofs.Common.{◌≡◌, ◌↔◌, ℕ, ◌∙◌, ap, refl, subst, sym, true, List}
use Rattle.std.specs.Prelude.{Bool, nat_eq}
use Rattle.std.specs.Cmp.{IsEquivalence, IsPartialEquivalence, first_so, partial_equiv_from_equiv, second_so}
use Rattle.std.specs.Cmp.Lexicographic.{pointwise}
use Rattle.std.specs.Ordering.{eq_of_both, on}
use Rattle.std.proofs.lemmas.Bool.{eqb-true}
use Rattle.std.proofs.lemmas.Cmp.{and_equiv, nat_eq_equiv, nat_list_eq_equiv, on_equiv}
use Rattle.std.proofs.lemmas.Option.{same_Some}
use Rattle.std.proofs.lemmas.Slice.Eq.{bytes_eq-Decides, slice_eq-Decides}
use Rattle.kdb_base.specs.EtypeLaws.{of_number}
use Rattle.kdb_base.specs.Etypes.{etype_of, number_of}
use Rattle.kdb_base.specs.declared.keys.Etype.{Etype}
use Rattle.kdb_base.specs.declared.keys.Salt.{Salt}
use Rattle.kdb_base.specs.declared.keys.Salt.TheVariants.{Normal, Special}
use Rattle.princ_keys.specs.Keys.{salt_kind, salt_bytes}
use Rattle.princ_keys.specs.declared.keys.KeyItem.{KeyItem}

-- the same version, type, salt and wrapped key; salts by their kind and their bytes
abbrev pub same_item : KeyItem → KeyItem → Bool
same_item =
    eq_of_both (on (λ (k : KeyItem). k.kvno) nat_eq)
    (eq_of_both (on (λ (k : KeyItem). number_of k.etype) nat_eq)
    (eq_of_both (on (λ (k : KeyItem). salt_kind k.salt) nat_eq)
    (eq_of_both (on (λ (k : KeyItem). salt_bytes k.salt) (pointwise nat_eq))
    (on (λ (k : KeyItem). k.wrapped) (pointwise nat_eq)))))

pub same_item_equiv : IsEquivalence same_item
same_item_equiv =
    and_equiv (on_equiv (λ (k : KeyItem). k.kvno) nat_eq_equiv)
    (and_equiv (on_equiv (λ (k : KeyItem). number_of k.etype) nat_eq_equiv)
    (and_equiv (on_equiv (λ (k : KeyItem). salt_kind k.salt) nat_eq_equiv)
    (and_equiv (on_equiv (λ (k : KeyItem). salt_bytes k.salt) nat_list_eq_equiv)
    (on_equiv (λ (k : KeyItem). k.wrapped) nat_list_eq_equiv))))

pub same_item_partial : IsPartialEquivalence same_item
same_item_partial = partial_equiv_from_equiv same_item_equiv

-- ---- what is equal is one

one_type : (t u : Etype) → number_of t ≡ number_of u → t ≡ u
one_type t u e = same_Some t u (sym (of_number t) ∙ ap etype_of e ∙ of_number u)

one_salt : (a b : Salt) → salt_kind a ≡ salt_kind b → salt_bytes a ≡ salt_bytes b → a ≡ b
one_salt Normal Normal kind bytes = refl
one_salt Normal (Special y) kind bytes = absurd cc
one_salt (Special x) Normal kind bytes = absurd cc
one_salt (Special x) (Special y) kind bytes = ap Special bytes

abbrev made : ℕ → Etype → Salt → List ℕ → KeyItem
made kvno etype salt wrapped = record { kvno = kvno; etype = etype; salt = salt; wrapped = wrapped }

one_item : (a b : KeyItem) → same_item a b ≡ true → a ≡ b
one_item a b e =
    let after_kvno = second_so _ _ e in
    let after_etype = second_so _ _ after_kvno in
    let after_kind = second_so _ _ after_etype in
    let kvno = eqb-true a.kvno b.kvno (first_so _ _ e) in
    let etype = one_type a.etype b.etype (eqb-true (number_of a.etype) (number_of b.etype) (first_so _ _ after_kvno)) in
    let kind = eqb-true (salt_kind a.salt) (salt_kind b.salt) (first_so _ _ after_etype) in
    let bytes = (bytes_eq-Decides (salt_bytes a.salt) (salt_bytes b.salt)).0 (first_so _ _ after_kind) in
    let wrapped = (bytes_eq-Decides a.wrapped b.wrapped).0 (second_so _ _ after_kind) in
    ap (λ (n : ℕ). made n a.etype a.salt a.wrapped) kvno
    ∙ ap (λ (t : Etype). made b.kvno t a.salt a.wrapped) etype
    ∙ ap (λ (s : Salt). made b.kvno b.etype s a.wrapped) (one_salt a.salt b.salt kind bytes)
    ∙ ap (λ (w : List ℕ). made b.kvno b.etype b.salt w) wrapped

pub equal_item : (a b : KeyItem) → (same_item a b ≡ true) ↔ (a ≡ b)
equal_item a b = (one_item a b, λ e. subst (λ (x : KeyItem). same_item a x ≡ true) e (same_item_equiv.refl a))

pub equal_items : (xs ys : List KeyItem) → (pointwise same_item xs ys ≡ true) ↔ (xs ≡ ys)
equal_items xs ys = slice_eq-Decides equal_item xs ys (pointwise same_item xs ys) refl
