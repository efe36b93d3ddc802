-- Names on both sides, and what is found by them.
use Rattle.std.proofs.Common.{◌≡◌, ◌≢◌, ℕ, true, List, [], ◌∷◌, length, refl, sym, ap, ◌∙◌, arith}
use Rattle.std.specs.Prelude.{filter, not, ◌&&◌, nat_eq}
use Rattle.std.specs.List.{AllZip}
use Rattle.std.specs.Ordering.{is_eq, is_lt, is_gt}
use Rattle.std.specs.Str.{bytes_eq}
use Rattle.std.specs.declared.cmp.Ordering.{Ordering}
use Rattle.std.specs.declared.cmp.Ordering.TheVariants.{Less, Equal, Greater}
use Rattle.std.proofs.lemmas.Map.Text.{is_eq-slice_cmp}
use Rattle.kdb_base.specs.Key.{Key}
use Rattle.kdb_base.specs.declared.versions.Master.{Master}
use Rattle.master_keys.specs.First.{master_name}
use Rattle.master_keys.proofs.SideBySide.{zip_length}
use Rattle.princ_record.specs.declared.princs.Princ.{Princ}
use Rattle.princ_rows.specs.EntryLaws.{bytes_same}
use Rattle.tagged_data.specs.KeyOrder.{key_cmp}
use Rattle.kdb_plain.specs.States.{history_name, is_name, princ_named, uses, users_of}
use Rattle.serving_versions.specs.Versions.{is_under, protected_by}
use Rattle.kdb_plain.specs.declared.princs.PlainPrinc.{PlainPrinc}
use Rattle.row_keys.specs.Lookups.{has_name, is_protected, names_policy}
use Rattle.row_keys.specs.Lookups.{record_named, records_under, records_with_policy}
use Rattle.row_keys.specs.Shows.{ShowsPrinc}
use Rattle.row_keys.specs.Sides.{AreBoth}
use Rattle.row_keys.proofs.Sides.{zip_filter, zip_find}

abbrev pub record_name : Princ → List ℕ
record_name p = p.name

-- ---- fields

pub same_name : {masters : List Master} {history : Key} (p : Princ) (q : PlainPrinc) → ShowsPrinc masters history p q
    → p.name ≡ q.name
same_name p q f = ap (λ (h : Princ). h.name) f.under.fields

pub same_policy : {masters : List Master} {history : Key} (p : Princ) (q : PlainPrinc) → ShowsPrinc masters history p q
    → p.policy ≡ q.policy
same_policy p q f = ap (λ (h : Princ). h.policy) f.under.fields

pub same_mkvno : {masters : List Master} {history : Key} (p : Princ) (q : PlainPrinc) → ShowsPrinc masters history p q
    → p.mkvno ≡ q.mkvno
same_mkvno p q f = ap (λ (h : Princ). h.mkvno) f.under.fields

-- ---- what is found by a name

module _ (masters : List Master) (history : Key) (princs : List Princ) (plain : List PlainPrinc)
    (h : AllZip (ShowsPrinc masters history) princs plain) where
  pub found_alike : (name : List ℕ)
      → AreBoth (ShowsPrinc masters history) (record_named name princs) (princ_named name plain)
  unfolding record_named princ_named
  found_alike name =
      zip_find (ShowsPrinc masters history) (has_name name) (λ (q : PlainPrinc). bytes_eq q.name name)
      (λ p q f. ap (λ n. bytes_eq n name) (same_name p q f)) princs plain h

  pub counted_alike : length princs ≡ length plain
  counted_alike = zip_length (ShowsPrinc masters history) princs plain h

  pub users_alike : (name : List ℕ) → records_with_policy name princs ≡ users_of name plain
  unfolding records_with_policy users_of
  users_alike name =
      zip_length (ShowsPrinc masters history) (filter (names_policy name) princs) (filter (uses name) plain)
      (zip_filter (ShowsPrinc masters history) (names_policy name) (uses name)
      (λ p q f. ap (is_name name) (same_policy p q f)) princs plain h)

  under_alike : (realm : List ℕ) (version : ℕ) (p : Princ) (q : PlainPrinc) → ShowsPrinc masters history p q
      → is_protected realm version p ≡ is_under realm version q
  under_alike realm version p q f =
      ap (λ n. nat_eq n version && not (bytes_eq p.name (master_name realm))) (same_mkvno p q f)
      ∙ ap (λ n. nat_eq q.mkvno version && not (bytes_eq n (master_name realm))) (same_name p q f)

  pub protected_alike : (realm : List ℕ) (version : ℕ)
      → records_under realm princs version ≡ protected_by realm plain version
  unfolding records_under protected_by
  protected_alike realm version =
      zip_length (ShowsPrinc masters history) (filter (is_protected realm version) princs)
      (filter (is_under realm version) plain)
      (zip_filter (ShowsPrinc masters history) (is_protected realm version) (is_under realm version)
      (under_alike realm version) princs plain h)

-- ---- names that differ

pub equal_self : (k : List ℕ) → is_eq (key_cmp k k) ≡ true
equal_self k = is_eq-slice_cmp k k ∙ bytes_same k k refl

lower_not : (o : Ordering) → is_lt o ≡ true → is_eq o ≡ true → ⊥
lower_not Less a b = absurd cc
lower_not Equal a b = absurd cc
lower_not Greater a b = absurd cc

higher_not : (o : Ordering) → is_gt o ≡ true → is_eq o ≡ true → ⊥
higher_not Less a b = absurd cc
higher_not Equal a b = absurd cc
higher_not Greater a b = absurd cc

pub lower_differs : (a k : List ℕ) → is_lt (key_cmp a k) ≡ true → a ≢ k
lower_differs a k lt e = lower_not (key_cmp a k) lt (ap (λ n. is_eq (key_cmp a n)) (sym e) ∙ equal_self a)

pub higher_differs : (a k : List ℕ) → is_gt (key_cmp a k) ≡ true → a ≢ k
higher_differs a k gt e = higher_not (key_cmp a k) gt (ap (λ n. is_eq (key_cmp a n)) (sym e) ∙ equal_self a)

abbrev front : List ℕ → ℕ
front [] = 0
front (b ∷ bytes) = b

pub own_names_differ : (realm : List ℕ) → master_name realm ≢ history_name realm
unfolding master_name history_name
own_names_differ realm e = let same : 75 ≡ 107 = ap front e in absurd (omega (arith, same))
