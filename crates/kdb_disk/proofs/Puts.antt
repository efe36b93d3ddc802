-- Bytes put into a file, and the files with one of them changed.
use Rattle.std.proofs.Common.{◌≡◌, ◌≢◌, ℕ, ◌+◌, ◌-◌, ◌<◌, ◌≤◌, max, min, List, [], ◌++◌, length}
use Rattle.std.proofs.Common.{get_or, take, drop, refl, sym, ◌∙◌, ap, subst, ⊎_elim, arith}
use Rattle.std.proofs.Common.{append_assoc, length-append, length-take, length-drop, take-append-drop}
use mathlib.Core.Path.{fun_ext}
use Rattle.std.proofs.lemmas.Bool.{eq-eqb, ne_eqb, cases_eq, cases_lt}
use Rattle.std.proofs.lemmas.List.{append-nil, take_at, take_all, drop_at, drop_all, take-append-le}
use Rattle.std.proofs.lemmas.List.{take-take, drop-drop, get_or-take, get_or_append_left, get_or-drop}
use Rattle.std.proofs.lemmas.Slice.{put_mid-paste}
use borrow.Rule.Slice.PartMut.{put_mid}
use Rattle.kdb_disk.specs.Files.{Files, put, with_file, written}

-- files that agree in each file are the same
pub same_files : (a b : Files) → ((g : ℕ) → a g ≡ b g) → a ≡ b
same_files a b each = fun_ext each

pub put_split : (at : ℕ) (bytes old : List ℕ)
    → put at bytes old ≡ take at old ++ (bytes ++ drop (at + length bytes) old)
unfolding put
put_split at bytes old = append_assoc (take at old) bytes (drop (at + length bytes) old)

pub length-put : (at : ℕ) (bytes old : List ℕ) → at ≤ length old
    → length (put at bytes old) ≡ max (length old) (at + length bytes)
unfolding put
length-put at bytes old le = simp (length-append, length-take, length-drop) (omega arith)

-- what stands before the place
pub take-put : (n at : ℕ) (bytes old : List ℕ) → n ≤ at → at ≤ length old → take n (put at bytes old) ≡ take n old
take-put n at bytes old le within =
    let short : n ≤ length (take at old) = omega (arith, length-take at old) in
    ap (take n) (put_split at bytes old) ∙ take-append-le n (take at old) (bytes ++ drop (at + length bytes) old) short
    ∙ take-take n at old le

-- what stands from the place on
pub drop-put : (at : ℕ) (bytes old : List ℕ) → at ≤ length old
    → drop at (put at bytes old) ≡ bytes ++ drop (at + length bytes) old
drop-put at bytes old within = ap (drop at) (put_split at bytes old)
    ∙ drop_at (take at old) (bytes ++ drop (at + length bytes) old) at (omega (arith, length-take at old))

-- what stands behind
pub drop-put_behind : (n at : ℕ) (bytes old : List ℕ) → at + length bytes ≤ n → at ≤ length old
    → drop n (put at bytes old) ≡ drop n old
drop-put_behind n at bytes old behind within =
    let end = at + length bytes in
    let is : n ≡ end + (n - end) = omega arith in
    let at_end : drop end (put at bytes old) ≡ drop end old =
    sym (drop-drop (length bytes) at (put at bytes old)) ∙ ap (drop (length bytes)) (drop-put at bytes old within)
    ∙ drop_at bytes (drop end old) (length bytes) refl in
    ap (λ (k : ℕ). drop k (put at bytes old)) is ∙ sym (drop-drop (n - end) end (put at bytes old))
    ∙ ap (drop (n - end)) at_end ∙ drop-drop (n - end) end old ∙ ap (λ (k : ℕ). drop k old) (sym is)

-- the bytes themselves
pub between-put : (at : ℕ) (bytes old : List ℕ) → at ≤ length old
    → take (length bytes) (drop at (put at bytes old)) ≡ bytes
between-put at bytes old within =
    ap (take (length bytes)) (drop-put at bytes old within) ∙ take_at bytes _ (length bytes) refl

-- bytes behind the end
pub put_end : (at : ℕ) (bytes old : List ℕ) → at ≡ length old → put at bytes old ≡ old ++ bytes
put_end at bytes old is =
    put_split at bytes old
    ∙ ap (λ (l : List ℕ). l ++ (bytes ++ drop (at + length bytes) old)) (take_all at old (omega arith))
    ∙ ap (λ (l : List ℕ). old ++ (bytes ++ l)) (drop_all (at + length bytes) old (omega arith))
    ∙ ap (λ (l : List ℕ). old ++ l) (append-nil bytes)

pub put_nothing : (at : ℕ) (old : List ℕ) → put at [] old ≡ old
put_nothing at old =
    put_split at [] old ∙ ap (λ (k : ℕ). take at old ++ drop k old) (omega arith) ∙ take-append-drop at old

-- bytes behind bytes
pub put_join : (at n : ℕ) (first second old : List ℕ) → at ≤ length old → n ≡ at + length first
    → put n second (put at first old) ≡ put at (first ++ second) old
put_join at n first second old within is =
    let front : take n (put at first old) ≡ take at old ++ first =
    ap (take n) (put_split at first old ∙ sym (append_assoc (take at old) first (drop (at + length first) old)))
    ∙ take_at (take at old ++ first) (drop (at + length first) old) n
    (omega (arith, length-append (take at old) first, length-take at old)) in
    let back : drop (n + length second) (put at first old) ≡ drop (n + length second) old =
    drop-put_behind (n + length second) at first old (omega arith) within in
    let end : n + length second ≡ at + length (first ++ second) = omega (arith, length-append first second) in
    put_split n second (put at first old)
    ∙ ap (λ (l : List ℕ). l ++ (second ++ drop (n + length second) (put at first old))) front
    ∙ ap (λ (l : List ℕ). (take at old ++ first) ++ (second ++ l)) back
    ∙ append_assoc (take at old) first (second ++ drop (n + length second) old)
    ∙ ap (λ (l : List ℕ). take at old ++ l) (sym (append_assoc first second (drop (n + length second) old)))
    ∙ ap (λ (k : ℕ). take at old ++ ((first ++ second) ++ drop k old)) end
    ∙ sym (put_split at (first ++ second) old)

-- bytes over fewer ones
pub put-put : (at : ℕ) (first second old : List ℕ) → at ≤ length old → length first ≤ length second
    → put at second (put at first old) ≡ put at second old
put-put at first second old within few =
    put_split at second (put at first old)
    ∙ ap (λ (l : List ℕ). l ++ (second ++ drop (at + length second) (put at first old)))
    (take-put at at first old (omega arith) within)
    ∙ ap (λ (l : List ℕ). take at old ++ (second ++ l))
    (drop-put_behind (at + length second) at first old (omega arith) within)
    ∙ sym (put_split at second old)

pub get_or-put_before : (i at : ℕ) (bytes old : List ℕ) (d : ℕ) → i < at → at ≤ length old
    → get_or (put at bytes old) i d ≡ get_or old i d
get_or-put_before i at bytes old d lt within =
    sym (get_or-take at (put at bytes old) i d lt)
    ∙ ap (λ (l : List ℕ). get_or l i d) (take-put at at bytes old (omega arith) within) ∙ get_or-take at old i d lt

pub get_or-put_in : (i at : ℕ) (bytes old : List ℕ) (d : ℕ) → i < length bytes → at ≤ length old
    → get_or (put at bytes old) (at + i) d ≡ get_or bytes i d
get_or-put_in i at bytes old d lt within =
    sym (get_or-drop at (put at bytes old) i d) ∙ ap (λ (l : List ℕ). get_or l i d) (drop-put at bytes old within)
    ∙ get_or_append_left bytes (drop (at + length bytes) old) d i lt

pub get_or-put_behind : (i at : ℕ) (bytes old : List ℕ) (d : ℕ) → at + length bytes ≤ i → at ≤ length old
    → get_or (put at bytes old) i d ≡ get_or old i d
get_or-put_behind i at bytes old d behind within =
    let at_start : (l : List ℕ) → get_or l i d ≡ get_or (drop i l) 0 d =
    λ l. ap (λ (k : ℕ). get_or l k d) (omega arith) ∙ sym (get_or-drop i l 0 d) in
    at_start (put at bytes old) ∙ ap (λ (l : List ℕ). get_or l 0 d) (drop-put_behind i at bytes old behind within)
    ∙ sym (at_start old)

pub with_file-same : (file : ℕ) (content : List ℕ) (files : Files) → with_file file content files file ≡ content
unfolding with_file
with_file-same file content files = rw (eq-eqb file file refl)

pub with_file-other : (file g : ℕ) (content : List ℕ) (files : Files) → g ≢ file
    → with_file file content files g ≡ files g
unfolding with_file
with_file-other file g content files other = rw (ne_eqb g file other)

pub with_file-with_file : (file : ℕ) (second first : List ℕ) (files : Files)
    → with_file file second (with_file file first files) ≡ with_file file second files
with_file-with_file file second first files = same_files _ _ (λ g. ⊎_elim
    (λ is. subst (λ (f : ℕ). with_file f second (with_file f first files) g ≡ with_file f second files g) is
    (with_file-same g second _ ∙ sym (with_file-same g second files)))
    (λ other. with_file-other file g second _ other ∙ with_file-other file g first files other
    ∙ sym (with_file-other file g second files other))
    (cases_eq g file))

-- a file with what it has
pub with_file_own : (file : ℕ) (content : List ℕ) (files : Files) → content ≡ files file
    → with_file file content files ≡ files
with_file_own file content files is = same_files _ _ (λ g. ⊎_elim
    (λ same. ap (with_file file content files) same ∙ with_file-same file content files ∙ is ∙ ap files (sym same))
    (λ other. with_file-other file g content files other)
    (cases_eq g file))

pub written-same : (file at : ℕ) (bytes : List ℕ) (files : Files)
    → written file at bytes files file ≡ put at bytes (files file)
unfolding written
written-same file at bytes files = with_file-same file (put at bytes (files file)) files

pub written-other : (file g at : ℕ) (bytes : List ℕ) (files : Files) → g ≢ file
    → written file at bytes files g ≡ files g
unfolding written
written-other file g at bytes files other = with_file-other file g (put at bytes (files file)) files other

-- two writes of one file
pub written-twice : (file at n : ℕ) (first second : List ℕ) (files : Files) → written file n second
    (written file at first files) ≡ with_file file (put n second (put at first (files file))) files
unfolding written
written-twice file at n first second files =
    ap (λ (l : List ℕ). with_file file (put n second l) (with_file file (put at first (files file)) files))
    (with_file-same file (put at first (files file)) files)
    ∙ with_file-with_file file (put n second (put at first (files file))) (put at first (files file)) files

-- bytes over fewer ones
pub written-written : (file at : ℕ) (first second : List ℕ) (files : Files) → at ≤ length (files file)
    → length first ≤ length second → written file at second (written file at first files) ≡ written file at second files
unfolding written
written-written file at first second files within few =
    written-twice file at at first second files
    ∙ ap (λ (l : List ℕ). with_file file l files) (put-put at first second (files file) within few)

-- bytes behind bytes
pub written_join : (file at n : ℕ) (first second : List ℕ) (files : Files) → at ≤ length (files file) → n
    ≡ at + length first → written file n second (written file at first files) ≡ written file at (first ++ second) files
unfolding written
written_join file at n first second files within is =
    written-twice file at n first second files
    ∙ ap (λ (l : List ℕ). with_file file l files) (put_join at n first second (files file) within is)

pub written_nothing : (file at : ℕ) (files : Files) → written file at [] files ≡ files
unfolding written
written_nothing file at files = with_file_own file (put at [] (files file)) files (put_nothing at (files file))

-- the bytes that stand there
pub written_there : (file at n : ℕ) (files : Files) → at + n ≤ length (files file)
    → written file at (take n (drop at (files file))) files ≡ files
unfolding written
written_there file at n files within =
    let s = files file in
    let long : length (take n (drop at s)) ≡ n = omega (arith, length-take n (drop at s), length-drop at s) in
    with_file_own file _ files
    (put_split at _ s ∙ ap (λ (k : ℕ). take at s ++ (take n (drop at s) ++ drop (at + k) s)) long
    ∙ ap (λ (l : List ℕ). take at s ++ (take n (drop at s) ++ l)) (sym (drop-drop n at s))
    ∙ ap (λ (l : List ℕ). take at s ++ l) (take-append-drop n (drop at s)) ∙ take-append-drop at s)

-- a write over a part of a slice
pub mid_put : (at k : ℕ) (old ys bytes : List ℕ) → ys ≡ bytes → k ≡ length bytes
    → put_mid at k old ys ≡ put at bytes old
unfolding put
mid_put at k old ys bytes is long =
    put_mid-paste at k old ys bytes (length bytes) is (sym long) refl
    ∙ ap (λ (l : List ℕ). take at old ++ l ++ drop (at + length bytes) old)
    (take_all (length bytes) bytes (omega arith))

-- a place past the end is the end
pub put_past : (at n : ℕ) (bytes old : List ℕ) → n ≡ min at (length old) → put at bytes old ≡ put n bytes old
put_past at n bytes old is = ⊎_elim
    (λ past.
    let end : n ≡ length old = omega arith in
    put_split at bytes old
    ∙ ap (λ (l : List ℕ). l ++ (bytes ++ drop (at + length bytes) old))
    (take_all at old (omega arith) ∙ sym (take_all n old (omega arith)))
    ∙ ap (λ (l : List ℕ). take n old ++ (bytes ++ l))
    (drop_all (at + length bytes) old (omega arith) ∙ sym (drop_all (n + length bytes) old (omega arith)))
    ∙ sym (put_split n bytes old))
    (λ within. ap (λ (k : ℕ). put k bytes old) (omega arith))
    (cases_lt (length old) at)

-- a file that was made longer by what goes past its end, and then written over
pub put_grown : (at n over : ℕ) (bytes rest old : List ℕ)
    → n ≡ min at (length old) → over ≡ min (length bytes) (length old - n) → rest ≡ drop over bytes
    → put n (take over bytes) (old ++ rest) ≡ put at bytes old
put_grown at n over bytes rest old is few behind =
    let front = take over bytes in
    let long : length front ≡ over = omega (arith, length-take over bytes) in
    let start : take n (old ++ rest) ≡ take n old = take-append-le n old rest (omega arith) in
    let end : front ++ drop (n + length front) (old ++ rest) ≡ bytes ++ drop (n + length bytes) old = ⊎_elim
    (λ past.
    let reaches : n + length front ≡ length old = omega arith in
    ap (λ (l : List ℕ). front ++ l)
    (ap (λ (k : ℕ). drop k (old ++ rest)) reaches ∙ drop_at old rest (length old) refl ∙ behind)
    ∙ take-append-drop over bytes ∙ sym (append-nil bytes)
    ∙ ap (λ (l : List ℕ). bytes ++ l) (sym (drop_all (n + length bytes) old (omega arith))))
    (λ within.
    let all : over ≡ length bytes = omega arith in
    let whole : front ≡ bytes = take_all over bytes (omega arith) in
    let none : rest ≡ [] = behind ∙ drop_all over bytes (omega arith) in
    ap (λ (l : List ℕ). l ++ drop (n + length l) (old ++ rest)) whole
    ∙ ap (λ (l : List ℕ). bytes ++ drop (n + length bytes) l) (ap (λ (l : List ℕ). old ++ l) none ∙ append-nil old))
    (cases_lt (length old) (n + length bytes)) in
    put_split n front (old ++ rest)
    ∙ ap (λ (l : List ℕ). l ++ (front ++ drop (n + length front) (old ++ rest))) start
    ∙ ap (λ (l : List ℕ). take n old ++ l) end
    ∙ sym (put_split n bytes old)
    ∙ sym (put_past at n bytes old is)

-- the same, as a vector that was lent as a slice of its own length
pub put_lent : (at n over long : ℕ) (bytes rest old grown slice : List ℕ) → n ≡ min at (length old)
    → over ≡ min (length bytes) (length old - n)
    → rest ≡ drop over bytes → grown ≡ old ++ rest → slice ≡ put n (take over bytes) grown → long ≡ length grown
    → take long (slice ++ drop (length slice) grown) ≡ put at bytes old
put_lent at n over long bytes rest old grown slice is few behind longer then all =
    let here : slice ≡ put at bytes old =
    then ∙ ap (put n (take over bytes)) longer ∙ put_grown at n over bytes rest old is few behind in
    let same : length slice ≡ length grown =
    ap length then ∙ length-put n (take over bytes) grown (omega (arith, ap length longer, length-append old rest))
    ∙ omega (
      arith,
      ap length longer,
      length-append old rest,
      ap length behind,
      length-drop over bytes,
      length-take over bytes,
    ) in
    ap (λ (l : List ℕ). take long (slice ++ l)) (drop_all (length slice) grown (omega (arith, same)))
    ∙ ap (take long) (append-nil slice)
    ∙ take_all long slice (omega (arith, same))
    ∙ here
