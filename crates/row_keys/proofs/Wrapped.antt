-- Keys wrapped one after another.
use Rattle.std.proofs.Common.{◌≡◌, ℕ, ◌+◌, ◌*◌, ◌<◌, ◌≤◌, Bool, List, [], ◌∷◌, ◌++◌, length, get_or}
use Rattle.std.proofs.Common.{take, drop, sym, ap, subst, ◌∙◌, append_assoc, append-nil, arith}
use Rattle.std.specs.List.{AllZip, sum_by}
use Rattle.std.proofs.lemmas.List.{drop-drop, drop_all, drop_more, length-drop, take_all}
use Rattle.std.proofs.lemmas.List.Sums.{sum_by-cons}
use Rattle.kdb_base.specs.Key.{Key}
use Rattle.princ_keys.specs.declared.keys.KeyItem.{KeyItem}
use Rattle.princ_keys.specs.declared.remembered.OldKey.{OldKey}
use Rattle.master_keys.proofs.Rewrapped.{zip_more_right}
use Rattle.plain_keys.specs.declared.items.PlainItem.{PlainItem}
use Rattle.row_keys.specs.Remembering.{wrapped_old_key, wrapped_old_keys}
use Rattle.row_keys.specs.Shows.{ShowsItem, ShowsOldKey}
use Rattle.row_keys.specs.Wraps.{confounder_of, taken_len, taken_lens, wrapped_item, wrapped_items}

-- what is wrapped, and what comes of the keys and the bytes that are left
pub record IsWrapped (master : Key) (drawn : Bool) (random : List ℕ) (items : List PlainItem) (out : List KeyItem)
    (left : List ℕ) (i : ℕ) : Type 0 where
  pub made : out ++ wrapped_items master drawn left (drop i items) ≡ wrapped_items master drawn random items
  pub enough : taken_lens drawn (drop i items) ≤ length left
  pub shows : AllZip (ShowsItem master) out (take i items)

pub taken_next : (drawn : Bool) (items : List PlainItem) (i : ℕ) (k : PlainItem) → i < length items
    → k ≡ get_or items i k → taken_lens drawn (drop i items) ≡ taken_len drawn k + taken_lens drawn (drop (i + 1) items)
unfolding taken_lens
taken_next drawn items i k lt is =
    ap (λ (ks : List PlainItem). sum_by (taken_len drawn) ks)
    (drop_more items i k lt ∙ ap (λ (x : PlainItem). x ∷ drop (i + 1) items) (sym is))
    ∙ sum_by-cons (taken_len drawn) k (drop (i + 1) items)

wrapped_next : (master : Key) (drawn : Bool) (left : List ℕ) (items : List PlainItem) (i : ℕ) (k : PlainItem)
    → i < length items → k ≡ get_or items i k
    → wrapped_items master drawn left (drop i items) ≡ wrapped_item master (confounder_of drawn left k) k
    ∷ wrapped_items master drawn (drop (taken_len drawn k) left) (drop (i + 1) items)
unfolding wrapped_items
wrapped_next master drawn left items i k lt is = ap (λ (ks : List PlainItem). wrapped_items master drawn left ks)
    (drop_more items i k lt ∙ ap (λ (x : PlainItem). x ∷ drop (i + 1) items) (sym is))

pub wrapped_more : (master : Key) (drawn : Bool) (random : List ℕ) (items : List PlainItem) (out new : List KeyItem)
    (left behind : List ℕ) (i : ℕ) (k : PlainItem) (x : KeyItem)
    → i < length items → k ≡ get_or items i k → x ≡ wrapped_item master (confounder_of drawn left k) k
    → ShowsItem master x k → new ≡ out ++ x ∷ [] → behind ≡ drop (taken_len drawn k) left
    → IsWrapped master drawn random items out left i → IsWrapped master drawn random items new behind (i + 1)
wrapped_more master drawn random items out new left behind i k x lt is is_x shown is_new is_behind f =
    let rest = wrapped_items master drawn behind (drop (i + 1) items) in
    let later : wrapped_items master drawn (drop (taken_len drawn k) left) (drop (i + 1) items) ≡ rest =
    ap (λ (l : List ℕ). wrapped_items master drawn l (drop (i + 1) items)) (sym is_behind) in
    let enough = f.enough in
    record {
      made =
          ap (λ (xs : List KeyItem). xs ++ rest) is_new
          ∙ append_assoc out (x ∷ []) rest
          ∙ ap (λ (y : KeyItem). out ++ y ∷ rest) is_x
          ∙ ap (λ (ys : List KeyItem). out ++ wrapped_item master (confounder_of drawn left k) k ∷ ys) (sym later)
          ∙ ap (λ (ys : List KeyItem). out ++ ys) (sym (wrapped_next master drawn left items i k lt is))
          ∙ f.made;
      enough = omega (
        arith,
        taken_next drawn items i k lt is,
        ap (λ (l : List ℕ). length l) is_behind,
        length-drop (taken_len drawn k) left,
      );
      shows = subst (λ (xs : List KeyItem). AllZip (ShowsItem master) xs (take (i + 1) items)) (sym is_new)
          (zip_more_right (ShowsItem master) out items i x k lt is f.shows shown);
    }

-- enough bytes for the next key
pub bytes_there : (master : Key) (drawn : Bool) (random : List ℕ) (items : List PlainItem) (out : List KeyItem)
    (left : List ℕ) (i : ℕ) (k : PlainItem) → i < length items → k ≡ get_or items i k
    → IsWrapped master drawn random items out left i → taken_len drawn k ≤ length left
bytes_there master drawn random items out left i k lt is f = let enough =
    f.enough in omega (arith, taken_next drawn items i k lt is)

pub wrapped_all : (master : Key) (drawn : Bool) (random : List ℕ) (items : List PlainItem) (out : List KeyItem)
    (left : List ℕ) (i : ℕ) → length items ≤ i → IsWrapped master drawn random items out left i
    → out ≡ wrapped_items master drawn random items
unfolding wrapped_items
wrapped_all master drawn random items out left i le f =
    sym (append-nil out)
    ∙ ap (λ (ks : List PlainItem). out ++ wrapped_items master drawn left ks) (sym (drop_all i items le)) ∙ f.made

pub shown_all : (master : Key) (drawn : Bool) (random : List ℕ) (items : List PlainItem) (out : List KeyItem)
    (left : List ℕ) (i : ℕ) → length items ≤ i → IsWrapped master drawn random items out left i
    → AllZip (ShowsItem master) out items
shown_all master drawn random items out left i le f =
    subst (λ (ks : List PlainItem). AllZip (ShowsItem master) out ks) (take_all i items le) f.shows

-- ---- the bytes behind keys

pub record IsBehind (drawn : Bool) (random : List ℕ) (items : List PlainItem) (left : List ℕ) (i : ℕ) : Type 0 where
  pub rest : drop (taken_lens drawn (drop i items)) left ≡ drop (taken_lens drawn items) random
  pub enough : taken_lens drawn (drop i items) ≤ length left

pub behind_there : (drawn : Bool) (random : List ℕ) (items : List PlainItem) (left : List ℕ) (i : ℕ) (k : PlainItem)
    → i < length items → k ≡ get_or items i k → IsBehind drawn random items left i → taken_len drawn k ≤ length left
behind_there drawn random items left i k lt is f = let enough =
    f.enough in omega (arith, taken_next drawn items i k lt is)

pub behind_more : (drawn : Bool) (random : List ℕ) (items : List PlainItem) (left behind : List ℕ) (i : ℕ)
    (k : PlainItem) → i < length items → k ≡ get_or items i k → behind ≡ drop (taken_len drawn k) left
    → IsBehind drawn random items left i → IsBehind drawn random items behind (i + 1)
behind_more drawn random items left behind i k lt is is_behind f =
    let enough = f.enough in
    let next = taken_next drawn items i k lt is in
    record {
      rest =
          ap (λ (l : List ℕ). drop (taken_lens drawn (drop (i + 1) items)) l) is_behind
          ∙ drop-drop (taken_lens drawn (drop (i + 1) items)) (taken_len drawn k) left
          ∙ ap (λ (n : ℕ). drop n left) (omega (arith, next))
          ∙ f.rest;
      enough = omega (arith, next, ap (λ (l : List ℕ). length l) is_behind, length-drop (taken_len drawn k) left);
    }

pub behind_all : (drawn : Bool) (random : List ℕ) (items : List PlainItem) (left : List ℕ) (i : ℕ) → length items ≤ i
    → IsBehind drawn random items left i → left ≡ drop (taken_lens drawn items) random
unfolding taken_lens
behind_all drawn random items left i le f =
    ap (λ (ks : List PlainItem). drop (sum_by (taken_len drawn) ks) left) (sym (drop_all i items le)) ∙ f.rest

-- ---- remembered keys

pub record AreWrapped (history : Key) (random : List ℕ) (keys : List Key) (out : List OldKey) (left : List ℕ)
    (i : ℕ) : Type 0 where
  pub made : out ++ wrapped_old_keys history left (drop i keys) ≡ wrapped_old_keys history random keys
  pub enough : 16 * length (drop i keys) ≤ length left
  pub shows : AllZip (ShowsOldKey history) out (take i keys)

old_next : (history : Key) (left : List ℕ) (keys : List Key) (i : ℕ) (k : Key) → i < length keys → k ≡ get_or keys i k
    → wrapped_old_keys history left (drop i keys) ≡ wrapped_old_key history (take 16 left) k
    ∷ wrapped_old_keys history (drop 16 left) (drop (i + 1) keys)
unfolding wrapped_old_keys
old_next history left keys i k lt is = ap (λ (ks : List Key). wrapped_old_keys history left ks)
    (drop_more keys i k lt ∙ ap (λ (x : Key). x ∷ drop (i + 1) keys) (sym is))

pub old_more : (history : Key) (random : List ℕ) (keys : List Key) (out new : List OldKey) (left behind : List ℕ)
    (i : ℕ) (k : Key) (x : OldKey)
    → i < length keys → k ≡ get_or keys i k → x ≡ wrapped_old_key history (take 16 left) k → ShowsOldKey history x k
    → new ≡ out ++ x ∷ [] → behind ≡ drop 16 left
    → AreWrapped history random keys out left i → AreWrapped history random keys new behind (i + 1)
old_more history random keys out new left behind i k x lt is is_x shown is_new is_behind f =
    let rest = wrapped_old_keys history behind (drop (i + 1) keys) in
    let later : wrapped_old_keys history (drop 16 left) (drop (i + 1) keys) ≡ rest =
    ap (λ (l : List ℕ). wrapped_old_keys history l (drop (i + 1) keys)) (sym is_behind) in
    let enough = f.enough in
    record {
      made =
          ap (λ (xs : List OldKey). xs ++ rest) is_new
          ∙ append_assoc out (x ∷ []) rest
          ∙ ap (λ (y : OldKey). out ++ y ∷ rest) is_x
          ∙ ap (λ (ys : List OldKey). out ++ wrapped_old_key history (take 16 left) k ∷ ys) (sym later)
          ∙ ap (λ (ys : List OldKey). out ++ ys) (sym (old_next history left keys i k lt is))
          ∙ f.made;
      enough = omega (
        arith,
        length-drop i keys,
        length-drop (i + 1) keys,
        ap (λ (l : List ℕ). length l) is_behind,
        length-drop 16 left,
      );
      shows = subst (λ (xs : List OldKey). AllZip (ShowsOldKey history) xs (take (i + 1) keys)) (sym is_new)
          (zip_more_right (ShowsOldKey history) out keys i x k lt is f.shows shown);
    }

pub old_all : (history : Key) (random : List ℕ) (keys : List Key) (out : List OldKey) (left : List ℕ) (i : ℕ)
    → length keys ≤ i → AreWrapped history random keys out left i → out ≡ wrapped_old_keys history random keys
unfolding wrapped_old_keys
old_all history random keys out left i le f =
    sym (append-nil out)
    ∙ ap (λ (ks : List Key). out ++ wrapped_old_keys history left ks) (sym (drop_all i keys le)) ∙ f.made

pub old_shown : (history : Key) (random : List ℕ) (keys : List Key) (out : List OldKey) (left : List ℕ) (i : ℕ)
    → length keys ≤ i → AreWrapped history random keys out left i → AllZip (ShowsOldKey history) out keys
old_shown history random keys out left i le f =
    subst (λ (ks : List Key). AllZip (ShowsOldKey history) out ks) (take_all i keys le) f.shows
