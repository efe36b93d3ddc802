-- Records counted by versions, one after another.
use Rattle.std.proofs.Common.{◌≡◌, ℕ, suc, ◌+◌, ◌^◌, ◌<◌, ◌≤◌, Bool, true, false, List, [], ◌∷◌, ◌++◌, length}
use Rattle.std.proofs.Common.{map, take, drop, get_or, set, refl, sym, ap, subst, ◌∙◌, append_assoc, arith}
use Rattle.std.specs.Prelude.{◌&&◌, filter, nat_eq, not, if◌then◌else◌}
use Rattle.std.specs.List.{All, AllByRecursion}
use Rattle.std.specs.Str.{bytes_eq}
use Rattle.std.proofs.lemmas.List.{append-nil, drop-set-lt, drop_all, drop_more, length-append}
use Rattle.std.proofs.lemmas.List.{length-take, take_all, take_more, take_more_set}
use Rattle.std.proofs.lemmas.List.Elements.{All-from_recursion, filter-append}
use Rattle.std.proofs.lemmas.List.Sums.{count_by-le-length, length-filter}
use Rattle.kdb_base.specs.Limits.{most_rows}
use Rattle.kdb_base.specs.declared.versions.Master.{Master}
use Rattle.master_keys.specs.First.{master_name}
use Rattle.mkey_admin.specs.Counting.{noted, recorded}
use Rattle.mkey_admin.specs.Told.{counts_of}
use Rattle.princ_record.specs.declared.princs.Princ.{Princ}
use Rattle.row_keys.specs.Lookups.{is_protected, records_under}

-- ---- one record, one master key after another

pub one_noted : (version : ℕ) (masters : List Master) (counts whole : List ℕ) (i y : ℕ) (m : Master) → i < length counts
    → i < length masters → m ≡ get_or masters i m
    → y ≡ (if nat_eq version m.version then get_or counts i 0 + 1 else get_or counts i 0)
    → take i counts ++ noted version (drop i masters) (drop i counts) ≡ whole
    → take (i + 1) (set counts i y) ++ noted version (drop (i + 1) masters) (drop (i + 1) (set counts i y)) ≡ whole
unfolding noted
one_noted version masters counts whole i y m in_counts in_masters is y_is so_far =
    let later : i < i + 1 = omega arith in
    let there : drop i masters ≡ m ∷ drop (i + 1) masters =
    drop_more masters i m in_masters ∙ ap (λ (x : Master). x ∷ drop (i + 1) masters) (sym is) in
    let split = rw (there, drop_more counts i 0 in_counts, ← y_is) at so_far in
    rw (take_more_set counts i y in_counts, drop-set-lt (i + 1) counts i y later, append_assoc) split

pub all_noted : (version : ℕ) (masters : List Master) (counts whole : List ℕ) (i : ℕ) → length counts ≤ i
    → length masters ≤ i → take i counts ++ noted version (drop i masters) (drop i counts) ≡ whole → counts ≡ whole
unfolding noted
all_noted version masters counts whole i done done_masters so_far =
    rw (take_all i counts done, drop_all i masters done_masters, append-nil) at so_far

-- the counts behind stay until they are reached
pub still_left : (counts old : List ℕ) (i y : ℕ) → i < length counts → i < length old → drop i counts ≡ drop i old
    → drop (i + 1) (set counts i y) ≡ drop (i + 1) old
still_left counts old i y in_counts in_old e =
    let later : i < i + 1 = omega arith in
    drop-set-lt (i + 1) counts i y later ∙ behind (get_or counts i 0) (get_or old i 0) (drop (i + 1) counts)
    (drop (i + 1) old) (sym (drop_more counts i 0 in_counts) ∙ e ∙ drop_more old i 0 in_old)
  where
    behind : (a b : ℕ) (xs ys : List ℕ) → ◌≡◌ {A = List ℕ} (a ∷ xs) (b ∷ ys) → xs ≡ ys
    behind a b xs ys e = cc

pub small_at : (counts old : List ℕ) (i bound : ℕ) → i < length counts → i < length old → drop i counts ≡ drop i old
    → All (λ c. c < bound) old → get_or counts i 0 < bound
small_at counts old i bound in_counts in_old e all =
    let same : get_or counts i 0 ≡ get_or old i 0 = front (get_or counts i 0) (get_or old i 0) (drop (i + 1) counts)
    (drop (i + 1) old) (sym (drop_more counts i 0 in_counts) ∙ e ∙ drop_more old i 0 in_old) in
    let lt = all i 0 in_old in
    subst (λ c. c < bound) (sym same) lt
  where
    front : (a b : ℕ) (xs ys : List ℕ) → ◌≡◌ {A = List ℕ} (a ∷ xs) (b ∷ ys) → a ≡ b
    front a b xs ys e = cc

-- ---- one record more

single : (t : Princ → Bool) (p : Princ) (b : Bool) → t p ≡ b → length (filter t (p ∷ [])) ≡ (if b then 1 else 0)
single t p true e = rw e refl
single t p false e = rw e refl

under_more : (realm : List ℕ) (front : List Princ) (p : Princ) (version : ℕ) (b : Bool)
    → is_protected realm version p ≡ b
    → records_under realm (front ++ p ∷ []) version ≡ records_under realm front version + (if b then 1 else 0)
unfolding records_under
under_more realm front p version b e =
    omega (
      arith,
      ap (λ xs. length xs) (filter-append (is_protected realm version) front (p ∷ [])),
      length-append (filter (is_protected realm version) front) (filter (is_protected realm version) (p ∷ [])),
      single (is_protected realm version) p b e,
    )

other_test : (a b : Bool) → b ≡ false → (a && not b) ≡ a
other_test true b e = rw e refl
other_test false b e = refl

own_test : (a b : Bool) → b ≡ true → (a && not b) ≡ false
own_test true b e = rw e refl
own_test false b e = refl

more_by : (a : Bool) (n : ℕ) → n + (if a then 1 else 0) ≡ (if a then n + 1 else n)
more_by true n = refl
more_by false n = omega arith

pub other_counted : (realm : List ℕ) (front : List Princ) (p : Princ) (masters : List Master)
    → bytes_eq p.name (master_name realm) ≡ false
    → noted p.mkvno masters (counts_of realm front masters) ≡ counts_of realm (front ++ p ∷ []) masters
unfolding counts_of noted
other_counted realm front p [] other = refl
other_counted realm front p (m ∷ masters) other =
    let test : is_protected realm m.version p ≡ nat_eq p.mkvno m.version =
    other_test (nat_eq p.mkvno m.version) (bytes_eq p.name (master_name realm)) other in
    let here = sym (under_more realm front p m.version (nat_eq p.mkvno m.version) test
    ∙ more_by (nat_eq p.mkvno m.version) (records_under realm front m.version)) in
    ap (λ n. n ∷ noted p.mkvno masters (map (λ (m : Master). records_under realm front m.version) masters)) here
    ∙ ap (λ ns. records_under realm (front ++ p ∷ []) m.version ∷ ns) (other_counted realm front p masters other)

pub own_skipped : (realm : List ℕ) (front : List Princ) (p : Princ) (masters : List Master)
    → bytes_eq p.name (master_name realm) ≡ true
    → counts_of realm front masters ≡ counts_of realm (front ++ p ∷ []) masters
unfolding counts_of
own_skipped realm front p [] own = refl
own_skipped realm front p (m ∷ masters) own =
    let test : is_protected realm m.version p ≡ false =
    own_test (nat_eq p.mkvno m.version) (bytes_eq p.name (master_name realm)) own in
    let here : records_under realm front m.version ≡ records_under realm (front ++ p ∷ []) m.version =
    omega (arith, under_more realm front p m.version false test) in
    ap (λ n. n ∷ map (λ (m : Master). records_under realm front m.version) masters) here
    ∙ ap (λ ns. records_under realm (front ++ p ∷ []) m.version ∷ ns) (own_skipped realm front p masters own)

pub none_counted : (realm : List ℕ) (masters : List Master) → map (λ _. 0) masters ≡ counts_of realm [] masters
unfolding counts_of records_under
none_counted realm [] = refl
none_counted realm (m ∷ masters) = ap (λ ns. 0 ∷ ns) (none_counted realm masters)

pub counts_long : (realm : List ℕ) (princs : List Princ) (masters : List Master)
    → length (counts_of realm princs masters) ≡ length masters
unfolding counts_of
counts_long realm princs [] = refl
counts_long realm princs (m ∷ masters) = ap suc (counts_long realm princs masters)

small_each : (realm : List ℕ) (princs : List Princ) (masters : List Master) (bound : ℕ) → length princs < bound
    → AllByRecursion (λ c. c < bound) (counts_of realm princs masters)
unfolding counts_of records_under
small_each realm princs [] bound lt = tt
small_each realm princs (m ∷ masters) bound lt = (
  omega (
    arith,
    length-filter (is_protected realm m.version) princs,
    count_by-le-length (is_protected realm m.version) princs,
  ),
  small_each realm princs masters bound lt,
)

pub counts_small : (realm : List ℕ) (princs : List Princ) (masters : List Master) (bound : ℕ) → length princs < bound
    → All (λ c. c < bound) (counts_of realm princs masters)
counts_small realm princs masters bound lt =
    All-from_recursion (λ c. c < bound) (counts_of realm princs masters) (small_each realm princs masters bound lt)

-- ---- as the code goes

recorded_by : (b : Bool) (realm : List ℕ) (front : List Princ) (p : Princ) (masters : List Master)
    → bytes_eq p.name (master_name realm) ≡ b
    → (if b then counts_of realm front masters
    else noted p.mkvno masters (counts_of realm front masters)) ≡ counts_of realm (front ++ p ∷ []) masters
recorded_by true realm front p masters e = own_skipped realm front p masters e
recorded_by false realm front p masters e = other_counted realm front p masters e

-- one record more is counted
pub row_counted : (realm : List ℕ) (princs : List Princ) (masters : List Master) (counts new : List ℕ) (i : ℕ)
    (p : Princ) → i < length princs → p ≡ get_or princs i p → counts ≡ counts_of realm (take i princs) masters
    → new ≡ recorded realm p masters counts → new ≡ counts_of realm (take (i + 1) princs) masters
row_counted realm princs masters counts new i p lt is counts_are new_is =
    let front : take (i + 1) princs ≡ take i princs ++ p ∷ [] =
    take_more princs i p lt ∙ ap (λ (x : Princ). take i princs ++ x ∷ []) (sym is) in
    new_is ∙ ap (recorded realm p masters) counts_are ∙ recorded_by (bytes_eq p.name (master_name realm)) realm
    (take i princs) p masters refl ∙ ap (λ ps. counts_of realm ps masters) (sym front)

pub counted_long : (realm : List ℕ) (princs : List Princ) (masters : List Master) (counts : List ℕ) (i : ℕ)
    → counts ≡ counts_of realm (take i princs) masters → length counts ≡ length masters
counted_long realm princs masters counts i is = ap (λ cs. length cs) is ∙ counts_long realm (take i princs) masters

pub counted_few : (realm : List ℕ) (princs : List Princ) (masters : List Master) (counts : List ℕ) (i : ℕ)
    → length princs ≤ most_rows → counts ≡ counts_of realm (take i princs) masters
    → All (λ count. count < 2 ^ 31) counts
counted_few realm princs masters counts i few is =
    subst (λ cs. All (λ count. count < 2 ^ 31) cs) (sym is)
    (counts_small realm (take i princs) masters (2 ^ 31) (omega (arith, length-take i princs)))
