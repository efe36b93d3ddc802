-- What is removed of a keytab, and what is left.
use Rattle.std.proofs.Common.{◌≡◌, ℕ, ◌+◌, ◌-◌, ◌<◌, ◌≤◌, Bool, true, false, cond, List, length}
use Rattle.std.proofs.Common.{map, max, drop, get_or, refl, sym, ap, subst, ◌∙◌, arith}
use Rattle.std.specs.Prelude.{not}
use Rattle.std.specs.List.{All, filter}
use Rattle.std.proofs.lemmas.List.{drop_all, drop_more, length-map}
use Rattle.std.proofs.lemmas.List.Elements.{All-filter}
use Rattle.std.proofs.lemmas.List.Filters.{length-filter_both}
use Rattle.princ_name.specs.Names.{NameParts}
use Rattle.stash_file.specs.Answers.{told}
use Rattle.stash_file.specs.Pieces.{Told}
use Rattle.stash_file.specs.declared.pieces.Entry.{Entry}
use Rattle.keytab_out.specs.Entries.{IsListed}
use Rattle.keytab_out.specs.Removed.{goes, greatest_of, is_of, later, left, removed}
use Rattle.keytab_out.specs.declared.removing.Which.{Which}
use Rattle.keytab_out.proofs.Mapped.{mapped_filter}

-- ---- the greatest version

swapped : (mine : Bool) (version greatest rest : ℕ)
    → max greatest (cond mine (max version rest) rest) ≡ max (cond mine (max version greatest) greatest) rest
swapped true version greatest rest = omega arith
swapped false version greatest rest = refl

pub one_seen : (name : NameParts) (entries : List Entry) (i : ℕ) (e : Entry) (greatest whole : ℕ) → i < length entries
    → e ≡ get_or entries i e
    → max greatest (greatest_of name (map told (drop i entries))) ≡ whole
    → max (later name (told e) greatest) (greatest_of name (map told (drop (i + 1) entries))) ≡ whole
unfolding greatest_of
one_seen name entries i e greatest whole lt is before =
    let rest = greatest_of name (map told (drop (i + 1) entries)) in
    let front : max greatest (later name (told e) rest) ≡ whole =
    ap (λ (x : Entry). max greatest (later name (told x) rest)) is
    ∙ ap (λ (xs : List Entry). max greatest (greatest_of name (map told xs))) (sym (drop_more entries i e lt))
    ∙ before in
    sym (swapped (is_of name (told e)) e.version greatest rest) ∙ front

pub all_seen : (name : NameParts) (entries : List Entry) (i : ℕ) (greatest whole : ℕ) → length entries ≤ i
    → max greatest (greatest_of name (map told (drop i entries))) ≡ whole → greatest ≡ whole
unfolding greatest_of
all_seen name entries i greatest whole le before =
    let none : max greatest 0 ≡ whole =
    ap (λ (xs : List Entry). max greatest (greatest_of name (map told xs))) (sym (drop_all i entries le)) ∙ before in
    omega arith

-- ---- what is left

-- the entries that were kept of these
pub record AreKept (name : NameParts) (which : Which) (list : List Told) (items kept : List Entry) : Type 0 where
  pub left : map told kept ≡ left name which list
  pub few : length kept ≤ length items
  pub count : length items - length kept ≡ length (removed name which list)

pub are_kept : (name : NameParts) (which : Which) (list : List Told) (items kept : List Entry) (greatest : ℕ)
    → map told items ≡ list → greatest ≡ greatest_of name (map told items)
    → kept ≡ filter (λ e. not (goes name which greatest (told e))) items → AreKept name which list items kept
are_kept name which list items kept greatest same most filtered =
    let test : Told → Bool = goes name which (greatest_of name list) in
    let stays : Told → Bool = λ t. not (test t) in
    let most_is : greatest ≡ greatest_of name list = most ∙ ap (greatest_of name) same in
    let kept_is : kept ≡ filter (λ e. stays (told e)) items =
    filtered ∙ ap (λ (g : ℕ). filter (λ (e : Entry). not (goes name which g (told e))) items) most_is in
    let seen : map told kept ≡ left name which list =
    ap (map told) kept_is ∙ mapped_filter stays told items ∙ ap (filter stays) same in
    let both = length-filter_both test stays (λ t. refl) list in
    record {
      left = seen;
      few = omega (
        arith,
        both,
        ap (length {A = Told}) seen,
        ap (length {A = Told}) same,
        length-map items told,
        length-map kept told,
      );
      count = omega (
        arith,
        both,
        ap (length {A = Told}) seen,
        ap (length {A = Told}) same,
        length-map items told,
        length-map kept told,
      );
    }

pub all_left : (name : NameParts) (which : Which) (list : List Told) (items kept : List Entry)
    → AreKept name which list items kept → All IsListed list → All IsListed (map told kept)
all_left name which list items kept is all =
    subst (All IsListed) (sym is.left)
    (All-filter (λ (t : Told). not (goes name which (greatest_of name list) t)) IsListed list all)
