-- What is handed out as a message spells it, and what came so far is the beginning of one.
use Rattle.std.proofs.Common.{◌≡◌, ℕ, suc, ◌+◌, ◌-◌, ◌^◌, ◌<◌, ◌≤◌, Bool, true, false, not}
use Rattle.std.proofs.Common.{cond, List, [], ◌∷◌, ◌++◌, length, take, drop, map, Option, Some}
use Rattle.std.proofs.Common.{None, refl, sym, ap, subst, ◌∙◌, append_assoc, arith, inl, inr}
use Rattle.std.specs.Prelude.{nat_eq, nat_lt, slice_index}
use Rattle.std.specs.List.{AllByRecursion, flat_map}
use Rattle.std.proofs.lemmas.Bool.{cases_lt, eqb-true, false≢true, ltb-false, ltb-true}
use Rattle.std.proofs.lemmas.Grind.{flat_map-append, take_at_read}
use Rattle.std.proofs.lemmas.List.{append-nil, length-append, length-drop}
use Rattle.std.proofs.lemmas.List.{map-append, nil_from_length, take-append-drop}
use Rattle.std.proofs.lemmas.List.Elements.{All-from_recursion}
use Rattle.byteorder.specs.Endian.{big_number}
use Rattle.kdb_base.specs.declared.moments.Point.{Point}
use Rattle.kdb_format.specs.Fields.{IsBytes, IsBytes-back, IsBytes-front}
use Rattle.kdb_format.specs.Laws.{big_field, whole_spelled}
use Rattle.kdb_format.specs.Moments.{point, IsPoint, point_at, point_field}
use Rattle.kdb_format.specs.Numbers.{big-big_number, big-byte}
use Rattle.kdb_format.specs.Readings.{big_at, whole}
use Rattle.kdb_format.specs.Spellings.{big}
use Rattle.princ_rows.specs.Entries.{IsSent, sent, sent_at}
use Rattle.princ_rows.specs.EntryLaws.{sent_field}
use Rattle.princ_rows.specs.Replies.{MayCome}
use Rattle.princ_rows.specs.declared.entries.Entry.{Entry}
use Rattle.princ_rows.specs.declared.replies.ReplyCode.{ReplyCode}
use Rattle.princ_rows.specs.declared.replies.ReplyCode.TheVariants.{UpdateOk, FullResyncNeeded, Busy, Nil, PermDenied}
use Rattle.iprop_wire.specs.Answers.{IsPart}
use Rattle.iprop_wire.specs.Decoding.{Begun, Nothing, Updates, Pieces, State, Going, Waits, Broken, Spent}
use Rattle.iprop_wire.specs.Decoding.{after_ask, after_dump_frame, after_first_frame, after_frame, after_head}
use Rattle.iprop_wire.specs.Decoding.{after_piece, after_total, after_update, after_update_frame, brings, fed}
use Rattle.iprop_wire.specs.Decoding.{fresh, head_at, is_length, may_come, or_broken, settled, taken}
use Rattle.iprop_wire.specs.Frames.{Frame, frame, text_of, frame_text, longest_body, most_behind, hello_kind}
use Rattle.iprop_wire.specs.Frames.{poll_kind, ask_kind, reply_kind, update_kind, piece_kind, total_kind}
use Rattle.iprop_wire.specs.HeadLaws.{IsHead, head_field}
use Rattle.iprop_wire.specs.Messages.{head_text}
use Rattle.iprop_wire.specs.Spelled.{AreFrames, IsMessage, IsPiece, Spells, update_frame}
use Rattle.iprop_wire.specs.declared.formats.Head.{Head}
use Rattle.iprop_wire.specs.declared.messages.Message.{Message}
use Rattle.iprop_wire.specs.declared.messages.Message.TheVariants.{Hello, Poll, Ask, Reply, DumpText}
use Rattle.iprop_wire.proofs.Steps.{same_number}

-- ---- what frames began

abbrev accepted : Point → ℕ → Head
accepted asked count = record { code = UpdateOk; asked = asked; count = count }

pub record UpdatesCame (frames : List Frame) (asked : Point) (left : ℕ) (got : List Entry) : Type 0 where
  pub count : ℕ
  pub counts : count ≡ length got + left
  pub few : count < 2 ^ 32
  pub point : IsPoint asked
  pub some : 0 < left
  pub sent : AllByRecursion IsSent got
  pub are : frames ≡ frame reply_kind (head_text (accepted asked count)) ∷ map update_frame got

pub record PiecesCame (frames : List Frame) (text : List ℕ) : Type 0 where
  pub pieces : List (List ℕ)
  pub are : AllByRecursion IsPiece pieces
  pub whole : flat_map (λ piece. piece) pieces ≡ text
  pub frames_are : frames ≡ map (frame piece_kind) pieces

abbrev pub Describes : List Frame → Begun → Type 0
Describes frames Nothing = frames ≡ []
Describes frames (Updates asked left got) = UpdatesCame frames asked left got
Describes frames (Pieces text) = PiecesCame frames text

-- what whole frames led to
abbrev Led : List Frame → State → Type 0
Led frames (Going b h) = (h ≡ []) × Describes frames b
Led frames (Waits m) = IsMessage m × AreFrames frames m
Led frames Broken = Unit {0}
Led frames Spent = Unit {0}

-- ---- choices

choose : (P : State → Type 0) (t : Bool) (one other : State) → (t ≡ true → P one) → (t ≡ false → P other)
    → P (cond t one other)
choose P true one other a b = a refl
choose P false one other a b = b refl

found : {A : Type 0} (P : State → Type 0) (o : Option A) (next : A → State) → ((x : A) → o ≡ Some x → P (next x))
    → P Broken → P (or_broken o next)
found P None next some none = none
found P (Some x) next some none = some x refl

pub snoc_all : {X : Type 0} (P : X → Type 0) (xs : List X) (x : X) → AllByRecursion P xs → P x
    → AllByRecursion P (xs ++ (x ∷ []))
snoc_all P [] x all is = (is, tt)
snoc_all P (y ∷ xs) x all is = (all.0, snoc_all P xs x all.1 is)

same_frame : (kind n : ℕ) (behind text : List ℕ) → nat_eq kind n ≡ true → behind ≡ text
    → ◌≡◌ {A = Frame} (frame kind behind) (frame n text)
same_frame kind n behind text k b = ap (λ (i : ℕ). frame i behind) (eqb-true kind n k) ∙ ap (frame n) b

-- ---- a frame of a dump

dump_led : (frames : List Frame) (text : List ℕ) (kind : ℕ) (behind : List ℕ) → PiecesCame frames text
    → length behind ≤ most_behind → IsBytes behind
    → Led (frames ++ (frame kind behind ∷ [])) (after_dump_frame text kind behind)
unfolding after_dump_frame
dump_led frames text kind behind came le bytes =
    let P : State → Type 0 = Led (frames ++ (frame kind behind ∷ [])) in
    choose P (nat_eq kind piece_kind) (after_piece text behind) _
    (λ k. choose P (nat_eq (length behind) 0) Broken (Going (Pieces (text ++ behind)) []) (λ _. tt)
    (λ some. (
      refl,
      record {
        pieces = came.pieces ++ (behind ∷ []);
        are = snoc_all IsPiece came.pieces behind came.are (grind (arith, some), le);
        whole = flat_map-append (λ (p : List ℕ). p) came.pieces (behind ∷ [])
            ∙ ap (λ (t : List ℕ). t ++ (behind ++ [])) came.whole ∙ ap (λ (t : List ℕ). text ++ t) (append-nil behind);
        frames_are = ap (λ (fs : List Frame). fs ++ (frame kind behind ∷ [])) came.frames_are
            ∙ ap (λ (f : Frame). map (frame piece_kind) came.pieces ++ (f ∷ []))
            (same_frame kind piece_kind behind behind k refl)
            ∙ sym (map-append (frame piece_kind) came.pieces (behind ∷ []));
      },
    )))
    (λ _. choose P (nat_eq kind total_kind) (or_broken (whole (big_at 8) behind) (after_total text)) Broken
    (λ k. found P (whole (big_at 8) behind) (after_total text)
    (λ n e.
    let spelled = whole_spelled (big_field 8) behind n bytes e in
    choose P (nat_eq n (length text)) (Waits (DumpText text)) Broken
    (λ same.
    let is = eqb-true n (length text) same in (
      omega (arith, is, spelled.1),
      record {
        pieces = came.pieces;
        are = All-from_recursion IsPiece came.pieces came.are;
        whole = came.whole;
        frames_are = ap (λ (fs : List Frame). fs ++ (frame kind behind ∷ [])) came.frames_are
            ∙ ap (λ (f : Frame). map (frame piece_kind) came.pieces ++ (f ∷ []))
            (same_frame kind total_kind behind (big 8 (length text)) k (spelled.0 ∙ ap (big 8) is));
      },
    ))
    (λ _. tt))
    tt)
    (λ _. tt))

-- ---- an update

update_led : (frames : List Frame) (asked : Point) (left : ℕ) (got : List Entry) (kind : ℕ) (behind : List ℕ)
    → UpdatesCame frames asked left got → IsBytes behind
    → Led (frames ++ (frame kind behind ∷ [])) (after_update_frame asked left got kind behind)
unfolding after_update_frame
update_led frames asked left got kind behind came bytes =
    let P : State → Type 0 = Led (frames ++ (frame kind behind ∷ [])) in
    choose P (nat_eq kind update_kind) (or_broken (whole sent_at behind) (after_update asked left got)) Broken
    (λ k. found P (whole sent_at behind) (after_update asked left got)
    (λ e read.
    let spelled = whole_spelled sent_field behind e bytes read in
    let us = got ++ (e ∷ []) in
    let all = snoc_all IsSent got e came.sent spelled.1 in
    let len = length-append got (e ∷ []) in
    let frames_are : frames ++ (frame kind behind ∷ []) ≡ frame reply_kind (head_text (accepted asked came.count))
    ∷ map update_frame us =
    ap (λ (fs : List Frame). fs ++ (frame kind behind ∷ [])) came.are
    ∙ ap (λ (f : Frame). frame reply_kind (head_text (accepted asked came.count)) ∷ (map update_frame got ++ (f ∷ [])))
    (same_frame kind update_kind behind (sent e) k spelled.0)
    ∙ ap (λ (fs : List Frame). frame reply_kind (head_text (accepted asked came.count)) ∷ fs)
    (sym (map-append update_frame got (e ∷ []))) in
    choose P (nat_eq left 1) (Waits (Reply (record { code = UpdateOk; asked = asked; updates = us })))
    (Going (Updates asked (left - 1) us) [])
    (λ one.
    let last = eqb-true left 1 one in
    let count_is : came.count ≡ length us = omega (arith, last, came.counts, len) in (
      (
        record { asked = came.point; count = omega (arith, count_is, came.few) },
        record { may_come = tt; sent = All-from_recursion IsSent us all },
      ),
      frames_are ∙ ap (λ (n : ℕ). frame reply_kind (head_text (accepted asked n)) ∷ map update_frame us) count_is,
    ))
    (λ more.
    let others : 1 < left = grind (arith, more, came.some) in (
      refl,
      record {
        count = came.count;
        counts = omega (arith, others, came.counts, len);
        few = came.few;
        point = came.point;
        some = omega (arith, others);
        sent = all;
        are = frames_are;
      },
    )))
    tt)
    (λ _. tt)

-- ---- the first frame

brings_is : (code : ReplyCode) → brings code ≡ true → code ≡ UpdateOk
brings_is UpdateOk e = refl
brings_is FullResyncNeeded e = absurd (false≢true e)
brings_is Busy e = absurd (false≢true e)
brings_is Nil e = absurd (false≢true e)
brings_is PermDenied e = absurd (false≢true e)

none_may_come : (code : ReplyCode) → MayCome code []
none_may_come UpdateOk = tt
none_may_come FullResyncNeeded = refl
none_may_come Busy = refl
none_may_come Nil = refl
none_may_come PermDenied = refl

head_led : (kind : ℕ) (behind : List ℕ) (h : Head) → nat_eq kind reply_kind ≡ true → behind ≡ head_text h → IsHead h
    → Led (frame kind behind ∷ []) (after_head h)
head_led kind behind h k spelled is =
    let P : State → Type 0 = Led (frame kind behind ∷ []) in
    choose P (nat_eq h.count 0) (Waits (Reply (record { code = h.code; asked = h.asked; updates = [] }))) _
    (λ none.
    let count_is = eqb-true h.count 0 none in
    let text : behind ≡ head_text (record { code = h.code; asked = h.asked; count = 0 }) =
    spelled ∙ ap (λ (n : ℕ). head_text (record { code = h.code; asked = h.asked; count = n })) count_is in (
      (
        record { asked = is.asked; count = omega arith },
        record { may_come = none_may_come h.code; sent = All-from_recursion IsSent [] tt },
      ),
      ap (λ (f : Frame). f ∷ [])
          (same_frame kind reply_kind behind (head_text (record { code = h.code; asked = h.asked; count = 0 })) k text),
    ))
    (λ some. choose P (brings h.code) (Going (Updates h.asked h.count []) []) Broken
    (λ ok.
    let text : behind ≡ head_text (accepted h.asked h.count) = spelled ∙ ap (λ (c : ReplyCode).
    head_text (record { code = c; asked = h.asked; count = h.count })) (brings_is h.code ok) in (
      refl,
      record {
        count = h.count;
        counts = omega arith;
        few = is.count;
        point = is.asked;
        some = grind (arith, some);
        sent = tt;
        are = ap (λ (f : Frame). f ∷ [])
            (same_frame kind reply_kind behind (head_text (accepted h.asked h.count)) k text);
      },
    ))
    (λ _. tt))

first_led : (kind : ℕ) (behind : List ℕ) → length behind ≤ most_behind → IsBytes behind
    → Led (frame kind behind ∷ []) (after_first_frame kind behind)
unfolding after_first_frame
first_led kind behind le bytes =
    let P : State → Type 0 = Led (frame kind behind ∷ []) in
    choose P (nat_eq kind hello_kind) (Waits (Hello behind)) _
    (λ k. (le, ap (λ (f : Frame). f ∷ []) (same_frame kind hello_kind behind behind k refl)))
    (λ _. choose P (nat_eq kind poll_kind) (or_broken (whole point_at behind) (λ asked. Waits (Poll asked))) _
    (λ k. found P (whole point_at behind) (λ asked. Waits (Poll asked))
    (λ p e. let spelled = whole_spelled point_field behind p bytes e in (
      spelled.1,
      ap (λ (f : Frame). f ∷ []) (same_frame kind poll_kind behind (point p) k spelled.0),
    ))
    tt)
    (λ _. choose P (nat_eq kind ask_kind) (after_ask behind) _
    (λ k. choose P (nat_eq (length behind) 0) (Waits Ask) Broken
    (λ none. (
      tt,
      ap (λ (f : Frame). f ∷ [])
          (same_frame kind ask_kind behind [] k (nil_from_length behind (eqb-true (length behind) 0 none))),
    ))
    (λ _. tt))
    (λ _. choose P (nat_eq kind reply_kind) (or_broken (whole head_at behind) after_head) _
    (λ k. found P (whole head_at behind) after_head
    (λ h e. let spelled = whole_spelled head_field behind h bytes e in head_led kind behind h k spelled.0 spelled.1)
    tt)
    (λ _. dump_led [] [] kind behind (record { pieces = []; are = tt; whole = refl; frames_are = refl }) le bytes))))

frame_led : (frames : List Frame) (b : Begun) (kind : ℕ) (behind : List ℕ) → Describes frames b
    → length behind ≤ most_behind → IsBytes behind
    → Led (frames ++ (frame kind behind ∷ [])) (after_frame b kind behind)
unfolding after_frame
frame_led frames Nothing kind behind came le bytes =
    subst (λ (fs : List Frame). Led (fs ++ (frame kind behind ∷ [])) (after_first_frame kind behind)) (sym came)
    (first_led kind behind le bytes)
frame_led frames (Updates asked left got) kind behind came le bytes =
    update_led frames asked left got kind behind came bytes
frame_led frames (Pieces text) kind behind came le bytes = dump_led frames text kind behind came le bytes

-- ---- bytes

-- of these bytes the last ones are of a frame that is not whole
pub record Came (text : List ℕ) (b : Begun) (h : List ℕ) : Type 0 where
  pub frames : List Frame
  pub describes : Describes frames b
  pub part : IsPart b h
  pub whole : text ≡ flat_map text_of frames ++ h

abbrev pub Comes : List ℕ → State → Type 0
Comes text (Going b h) = Came text b h
Comes text (Waits m) = Spells text m
Comes text Broken = Unit {0}
Comes text Spent = Unit {0}

nothing_held : (b : Begun) → IsPart b []
nothing_held b = record {
  length_good = λ le. absurd (omega arith);
  kind_good = λ le. absurd (omega arith);
  short = λ le. absurd (omega arith);
}

-- a frame that became whole
closes : (text : List ℕ) (frames : List Frame) (f : Frame) (s : State) → text ≡ flat_map text_of frames ++ text_of f
    → Led (frames ++ (f ∷ [])) s → Comes text s
closes text frames f (Going b h) is led =
    let all : text ≡ flat_map text_of (frames ++ (f ∷ [])) = is ∙ ap (λ (t : List ℕ). flat_map text_of frames ++ t)
    (sym (append-nil (text_of f))) ∙ sym (flat_map-append text_of frames (f ∷ [])) in
    subst (Came text b) (sym led.0) (record {
      frames = frames ++ (f ∷ []);
      describes = led.1;
      part = nothing_held b;
      whole = all ∙ sym (append-nil (flat_map text_of (frames ++ (f ∷ []))));
    })
closes text frames f (Waits m) is led =
    let all : text ≡ flat_map text_of (frames ++ (f ∷ [])) = is ∙ ap (λ (t : List ℕ). flat_map text_of frames ++ t)
    (sym (append-nil (text_of f))) ∙ sym (flat_map-append text_of frames (f ∷ [])) in
    record { is_message = led.0; frames = frames ++ (f ∷ []); are = led.1; whole = all }
closes text frames f Broken is led = tt
closes text frames f Spent is led = tt

not_false : (b : Bool) → not b ≡ false → b ≡ true
not_false true e = refl
not_false false e = absurd (false≢true (sym e))

length_is : (n : ℕ) → is_length n ≡ true → (0 < n) × (n ≤ 65536)
length_is n e = (grind (arith, e), grind (arith, e))

-- all bytes of a frame
whole_frame : (g : List ℕ) → IsBytes g → 5 ≤ length g → length g ≡ 4 + big_number 4 g
    → g ≡ frame_text (slice_index g 4) (drop 5 g)
unfolding frame_text
whole_frame g bytes long len =
    let n = big_number 4 g in
    let kind = slice_index g 4 in
    let behind = drop 5 g in
    let count : 1 + length behind ≡ n = omega (arith, long, len, length-drop 5 g) in
    let front : big 4 (1 + length behind) ≡ take 4 g =
    ap (big 4) count ∙ big-big_number 4 g bytes (omega (arith, long)) in
    let one : big 1 kind ≡ kind ∷ [] = big-byte kind (bytes 4) in
    let five : take 5 g ≡ take 4 g ++ (kind ∷ []) = (take_at_read g 4 0 (omega (arith, long))).1 in
    let parts : g ≡ (take 4 g ++ (kind ∷ [])) ++ behind =
    sym (take-append-drop 5 g) ∙ ap (λ (t : List ℕ). t ++ behind) five in
    parts ∙ append_assoc (take 4 g) (kind ∷ []) behind ∙ ap (λ (t : List ℕ). t ++ ((kind ∷ []) ++ behind)) (sym front)
    ∙ ap (λ (t : List ℕ). big 4 (1 + length behind) ++ (t ++ behind)) (sym one)

-- one byte more
byte_comes : (text : List ℕ) (b : Begun) (h : List ℕ) (x : ℕ) → Came text b h → IsBytes (text ++ (x ∷ []))
    → Comes (text ++ (x ∷ [])) (settled b (h ++ (x ∷ [])))
unfolding settled
byte_comes text b h x came bytes =
    let g = h ++ (x ∷ []) in
    let n = big_number 4 g in
    let P : State → Type 0 = Comes (text ++ (x ∷ [])) in
    let whole : text ++ (x ∷ []) ≡ flat_map text_of came.frames ++ g =
    ap (λ (t : List ℕ). t ++ (x ∷ [])) came.whole ∙ append_assoc (flat_map text_of came.frames) h (x ∷ []) in
    let held : IsBytes g = IsBytes-back (flat_map text_of came.frames) g (subst IsBytes whole bytes) in
    let len : length g ≡ length h + 1 = length-append h (x ∷ []) in
    let still : IsPart b g → Came (text ++ (x ∷ [])) b g =
    λ part. record { frames = came.frames; describes = came.describes; part = part; whole = whole } in
    choose P (nat_lt (length g) 4) (Going b g) _
    (λ few.
    let lt = ltb-true (length g) 4 few in
    still (record {
      length_good = λ le. absurd (omega (arith, lt, le));
      kind_good = λ le. absurd (omega (arith, lt, le));
      short = λ le. absurd (omega (arith, lt, le));
    }))
    (λ enough. choose P (not (is_length n)) Broken _ (λ _. tt)
    (λ good.
    let four = ltb-false (length g) 4 enough in
    let length_good = not_false (is_length n) good in
    let bounds = length_is n length_good in
    choose P (nat_lt (length g) 5) (Going b g) _
    (λ few.
    let lt = ltb-true (length g) 5 few in
    still (record {
      length_good = λ _. length_good;
      kind_good = λ le. absurd (omega (arith, lt, le));
      short = λ _. omega (arith, lt, bounds.0);
    }))
    (λ more. choose P (not (may_come b (slice_index g 4))) Broken _ (λ _. tt)
    (λ comes.
    let five = ltb-false (length g) 5 more in
    let kind_good = not_false (may_come b (slice_index g 4)) comes in
    choose P (nat_lt (length g) (4 + n)) (Going b g) (after_frame b (slice_index g 4) (drop 5 g))
    (λ few. let lt = ltb-true (length g) (4 + n) few in
    still (record { length_good = λ _. length_good; kind_good = λ _. kind_good; short = λ _. lt }))
    (λ all.
    let ge = ltb-false (length g) (4 + n) all in
    let before = came.part.short (omega (arith, five, len)) in
    let same = same_number h (x ∷ []) (omega (arith, five, len)) in
    let exact : length g ≡ 4 + n = omega (arith, ge, before, same, len) in
    let f = frame (slice_index g 4) (drop 5 g) in
    let is = whole_frame g held five exact in
    let tail : IsBytes (drop 5 g) =
    IsBytes-back (take 5 g) (drop 5 g) (subst IsBytes (sym (take-append-drop 5 g)) held) in
    let short : length (drop 5 g) ≤ most_behind = omega (arith, exact, bounds.1, length-drop 5 g) in
    closes (text ++ (x ∷ [])) came.frames f (after_frame b (slice_index g 4) (drop 5 g))
    (whole ∙ ap (λ (t : List ℕ). flat_map text_of came.frames ++ t) is)
    (frame_led came.frames b (slice_index g 4) (drop 5 g) came.describes short tail))))))

-- ---- a run of bytes

-- where bytes lead behind others
abbrev RunsTo : List ℕ → List ℕ → ℕ → State → Type 0
RunsTo front text n (Going b h) = Came (front ++ text) b h
RunsTo front text n (Waits m) = Spells (front ++ take n text) m
RunsTo front text n Broken = Unit {0}
RunsTo front text n Spent = Unit {0}

take_more : (n x : ℕ) (xs : List ℕ) → take (1 + n) (x ∷ xs) ≡ x ∷ take n xs
take_more n x xs = let e : 1 + n ≡ suc n = omega arith in ap (λ (k : ℕ). take k (x ∷ xs)) e

shift : (front text : List ℕ) (x n : ℕ) (s : State) → RunsTo (front ++ (x ∷ [])) text n s
    → RunsTo front (x ∷ text) (1 + n) s
shift front text x n (Going b h) runs = subst (λ (t : List ℕ). Came t b h) (append_assoc front (x ∷ []) text) runs
shift front text x n (Waits m) runs =
    subst (λ (t : List ℕ). Spells t m)
    (append_assoc front (x ∷ []) (take n text) ∙ ap (λ (t : List ℕ). front ++ t) (sym (take_more n x text))) runs
shift front text x n Broken runs = tt
shift front text x n Spent runs = tt

waits_runs : (front text : List ℕ) (m : Message) → Spells front m
    → RunsTo front text (taken (Waits m) text) (fed (Waits m) text)
unfolding fed taken
waits_runs front [] m is = subst (λ (t : List ℕ). Spells t m) (sym (append-nil front)) is
waits_runs front (x ∷ text) m is = subst (λ (t : List ℕ). Spells t m) (sym (append-nil front)) is

run : (s : State) (front text : List ℕ) → Comes front s → IsBytes (front ++ text)
    → RunsTo front text (taken s text) (fed s text)
unfolding fed taken
run (Going b h) front [] comes bytes = subst (λ (t : List ℕ). Came t b h) (sym (append-nil front)) comes
run (Going b h) front (x ∷ text) comes bytes =
    let parts : front ++ (x ∷ text) ≡ (front ++ (x ∷ [])) ++ text = sym (append_assoc front (x ∷ []) text) in
    let all = subst IsBytes parts bytes in
    let next = byte_comes front b h x comes (IsBytes-front (front ++ (x ∷ [])) text all) in
    shift front text x (taken (settled b (h ++ (x ∷ []))) text) (fed (settled b (h ++ (x ∷ []))) text)
    (run (settled b (h ++ (x ∷ []))) (front ++ (x ∷ [])) text next all)
run (Waits m) front text comes bytes = waits_runs front text m comes
run Broken front [] comes bytes = tt
run Broken front (x ∷ text) comes bytes = tt
run Spent front [] comes bytes = tt
run Spent front (x ∷ text) comes bytes = tt

none_came : Came [] Nothing []
none_came = record { frames = []; describes = refl; part = nothing_held Nothing; whole = refl }

pub handed_out_spelled : (text : List ℕ) (m : Message) → IsBytes text → fed fresh text ≡ Waits m
    → Spells (take (taken fresh text) text) m
handed_out_spelled text m bytes is =
    subst (λ (s : State). RunsTo [] text (taken fresh text) s) is (run fresh [] text none_came bytes)

pub still_came : (text : List ℕ) (b : Begun) (h : List ℕ) → IsBytes text → fed fresh text ≡ Going b h → Came text b h
still_came text b h bytes is =
    subst (λ (s : State). RunsTo [] text (taken fresh text) s) is (run fresh [] text none_came bytes)

pub little_held : (text : List ℕ) (b : Begun) (h : List ℕ) → IsBytes text → fed fresh text ≡ Going b h
    → length h < 4 + longest_body
little_held text b h bytes is =
    let part = (still_came text b h bytes is).part in
    elim (cases_lt (length h) 4) [
      | inl few ↦ omega (arith, few)
      | inr four ↦ let most = length_is (big_number 4 h) (part.length_good four) in let short =
          part.short four in omega (arith, most.1, short)
    ]
