-- Bytes that were taken are the beginning of a message.
use Rattle.std.proofs.Common.{◌≡◌, ℕ, zero, suc, ◌+◌, ◌-◌, ◌^◌, ◌<◌, ◌≤◌, Bool, true, false, List, [], ◌∷◌, ◌++◌}
use Rattle.std.proofs.Common.{length, map, replicate, Some, refl, sym, ap, subst, ◌∙◌, append_assoc, arith, inl, inr}
use Rattle.std.specs.Prelude.{nat_eq, slice_index}
use Rattle.std.specs.List.{AllByRecursion, flat_map}
use Rattle.std.proofs.lemmas.Bool.{cases_lt, eqb-true, false≢true}
use Rattle.std.proofs.lemmas.Grind.{flat_map-append}
use Rattle.std.proofs.lemmas.List.{length-append, length-replicate, map-append}
use Rattle.std.proofs.lemmas.List.Elements.{All-from_recursion}
use Rattle.kdb_base.specs.declared.moments.Point.{Point}
use Rattle.kdb_format.specs.Fields.{IsBytes}
use Rattle.kdb_format.specs.Moments.{IsPoint, point}
use Rattle.kdb_format.specs.Spellings.{big}
use Rattle.policy_rules.specs.Names.{is_policy_name}
use Rattle.princ_rows.specs.Entries.{IsSent}
use Rattle.princ_rows.specs.declared.entries.Entry.{Entry}
use Rattle.princ_rows.specs.declared.entries.Op.TheVariants.{DropPolicy}
use Rattle.princ_rows.specs.declared.replies.ReplyCode.TheVariants.{UpdateOk, Nil}
use Rattle.iprop_wire.specs.Beginnings.{IsBeginning}
use Rattle.iprop_wire.specs.Decoding.{Begun, Nothing, Updates, Pieces, Going, fed}
use Rattle.iprop_wire.specs.Decoding.{fresh, is_of_dump, may_begin, may_come}
use Rattle.iprop_wire.specs.Frames.{Frame, frame, text_of, frame_text, hello_kind, poll_kind}
use Rattle.iprop_wire.specs.Frames.{ask_kind, reply_kind, update_kind, piece_kind, total_kind}
use Rattle.iprop_wire.specs.Messages.{head_text}
use Rattle.iprop_wire.specs.Spelled.{AreFrames, IsMessage, IsPiece, update_frame}
use Rattle.iprop_wire.specs.declared.messages.Message.{Message}
use Rattle.iprop_wire.specs.declared.messages.Message.TheVariants.{Hello, Poll, Ask, Reply, DumpText}
use Rattle.iprop_wire.proofs.Came.{Came, Describes, PiecesCame, UpdatesCame, snoc_all, still_came}
use Rattle.iprop_wire.proofs.Reading.{length-frame}

-- a message that goes on with a frame of this kind
record Completes (frames : List Frame) (kind : ℕ) : Type 0 where
  message : Message
  next : Frame
  more : List Frame
  is_message : IsMessage message
  are : AreFrames (frames ++ (next ∷ more)) message
  kind_is : kind ≡ next.kind

pick : {X : Type 0} (t : Bool) → (t ≡ true → X) → (t ≡ false → X) → X
pick true a b = a refl
pick false a b = b refl

-- ---- values that are always there

abbrev no_point : Point
no_point = record { sno = 0; time = record { secs = 0; usecs = 0 } }

is_no_point : IsPoint no_point
is_no_point = record { sno = omega arith; time = record { secs = omega arith; usecs = omega arith } }

-- a policy that is taken away
abbrev some_entry : Entry
some_entry = record { point = no_point; op = Some (DropPolicy (97 ∷ [])) }

is_some_entry : IsSent some_entry
unfolding is_policy_name
is_some_entry = record { point = is_no_point; change = omega arith; op = refl }

-- ---- nothing came

first_goes_on : (kind : ℕ) → may_begin kind ≡ true → Completes [] kind
first_goes_on kind may =
    pick (nat_eq kind hello_kind) (λ e. record {
      message = Hello [];
      next = frame hello_kind [];
      more = [];
      is_message = omega arith;
      are = refl;
      kind_is = eqb-true kind hello_kind e;
    })
    (λ a. pick (nat_eq kind poll_kind) (λ e. record {
      message = Poll no_point;
      next = frame poll_kind (point no_point);
      more = [];
      is_message = is_no_point;
      are = refl;
      kind_is = eqb-true kind poll_kind e;
    })
    (λ b. pick (nat_eq kind ask_kind) (λ e. record {
      message = Ask;
      next = frame ask_kind [];
      more = [];
      is_message = tt;
      are = refl;
      kind_is = eqb-true kind ask_kind e;
    })
    (λ c. pick (nat_eq kind reply_kind) (λ e. record {
      message = Reply (record { code = Nil; asked = no_point; updates = [] });
      next = frame reply_kind (head_text (record { code = Nil; asked = no_point; count = 0 }));
      more = [];
      is_message = (
        record { asked = is_no_point; count = omega arith },
        record { may_come = refl; sent = All-from_recursion IsSent [] tt },
      );
      are = refl;
      kind_is = eqb-true kind reply_kind e;
    })
    (λ d. pick (nat_eq kind piece_kind) (λ e. record {
      message = DumpText (0 ∷ []);
      next = frame piece_kind (0 ∷ []);
      more = frame total_kind (big 8 1) ∷ [];
      is_message = omega arith;
      are = record {
        pieces = (0 ∷ []) ∷ [];
        are = All-from_recursion IsPiece ((0 ∷ []) ∷ []) ((omega arith, omega arith), tt);
        whole = refl;
        frames_are = refl;
      };
      kind_is = eqb-true kind piece_kind e;
    })
    (λ f. pick (nat_eq kind total_kind) (λ e. record {
      message = DumpText [];
      next = frame total_kind (big 8 0);
      more = [];
      is_message = omega arith;
      are = record { pieces = []; are = All-from_recursion IsPiece [] tt; whole = refl; frames_are = refl };
      kind_is = eqb-true kind total_kind e;
    })
    (λ g. let none : may_begin kind ≡ false = rw (a, b, c, d, f, g) refl in absurd (false≢true (sym none ∙ may))))))))

-- ---- updates came

all_append : {X : Type 0} (P : X → Type 0) (xs ys : List X) → AllByRecursion P xs → AllByRecursion P ys
    → AllByRecursion P (xs ++ ys)
all_append P [] ys a b = b
all_append P (x ∷ xs) ys a b = (a.0, all_append P xs ys a.1 b)

all_entries : (n : ℕ) → AllByRecursion IsSent (replicate n some_entry)
all_entries zero = tt
all_entries (suc n) = (is_some_entry, all_entries n)

update_goes_on : (frames : List Frame) (asked : Point) (left : ℕ) (got : List Entry) (kind : ℕ)
    → UpdatesCame frames asked left got → nat_eq kind update_kind ≡ true → Completes frames kind
update_goes_on frames asked left got kind came is =
    let others = replicate (left - 1) some_entry in
    let us = got ++ (some_entry ∷ others) in
    let len : came.count ≡ length us = omega (
      arith,
      came.counts,
      came.some,
      length-append got (some_entry ∷ others),
      length-replicate {A = Entry} (left - 1) some_entry,
    ) in
    let all = all_append IsSent got (some_entry ∷ others) came.sent (is_some_entry, all_entries (left - 1)) in
    record {
      message = Reply (record { code = UpdateOk; asked = asked; updates = us });
      next = update_frame some_entry;
      more = map update_frame others;
      is_message = (
        record { asked = came.point; count = omega (arith, len, came.few) },
        record { may_come = tt; sent = All-from_recursion IsSent us all },
      );
      are = ap (λ (fs : List Frame). fs ++ (update_frame some_entry ∷ map update_frame others)) came.are
          ∙ ap (λ (n : ℕ). frame reply_kind (head_text (record { code = UpdateOk; asked = asked; count = n }))
          ∷ (map update_frame got ++ (update_frame some_entry ∷ map update_frame others))) len
          ∙ ap (λ (fs : List Frame). frame reply_kind (head_text (record {
            code = UpdateOk;
            asked = asked;
            count = length us;
          })) ∷ fs) (sym (map-append update_frame got (some_entry ∷ others)));
      kind_is = eqb-true kind update_kind is;
    }

-- ---- a dump came in part

pieces_long : (pieces : List (List ℕ))
    → length (flat_map (λ piece. piece) pieces) ≤ length (flat_map text_of (map (frame piece_kind) pieces))
pieces_long [] = omega arith
pieces_long (piece ∷ pieces) =
    let rest = pieces_long pieces in
    let a = length-append piece (flat_map (λ p. p) pieces) in
    let b = length-append (frame_text piece_kind piece) (flat_map text_of (map (frame piece_kind) pieces)) in
    let c = length-frame piece_kind piece in
    omega arith

dump_long : (frames : List Frame) (text : List ℕ) → PiecesCame frames text
    → length text ≤ length (flat_map text_of frames)
dump_long frames text came =
    let a = ap (λ (t : List ℕ). length t) came.whole in
    let b = ap (λ (fs : List Frame). length (flat_map text_of fs)) came.frames_are in
    let c = pieces_long came.pieces in
    omega arith

total_goes_on : (frames : List Frame) (text : List ℕ) → PiecesCame frames text → length text < 2 ^ 64
    → Completes frames total_kind
total_goes_on frames text came lt = record {
  message = DumpText text;
  next = frame total_kind (big 8 (length text));
  more = [];
  is_message = lt;
  are = record {
    pieces = came.pieces;
    are = All-from_recursion IsPiece came.pieces came.are;
    whole = came.whole;
    frames_are = ap (λ (fs : List Frame). fs ++ (frame total_kind (big 8 (length text)) ∷ [])) came.frames_are;
  };
  kind_is = refl;
}

piece_goes_on : (frames : List Frame) (text : List ℕ) → PiecesCame frames text → length text + 1 < 2 ^ 64
    → Completes frames piece_kind
piece_goes_on frames text came lt =
    let one : List ℕ = 0 ∷ [] in
    let all = text ++ one in
    let total = frame total_kind (big 8 (length all)) in
    record {
      message = DumpText all;
      next = frame piece_kind one;
      more = total ∷ [];
      is_message = omega (arith, lt, length-append text one);
      are = record {
        pieces = came.pieces ++ (one ∷ []);
        are = All-from_recursion IsPiece (came.pieces ++ (one ∷ []))
            (snoc_all IsPiece came.pieces one came.are (omega arith, omega arith));
        whole = flat_map-append (λ (p : List ℕ). p) came.pieces (one ∷ []) ∙ ap (λ (t : List ℕ). t ++ one) came.whole;
        frames_are = ap (λ (fs : List Frame). fs ++ (frame piece_kind one ∷ total ∷ [])) came.frames_are
            ∙ sym (append_assoc (map (frame piece_kind) came.pieces) (frame piece_kind one ∷ []) (total ∷ []))
            ∙ ap (λ (fs : List Frame). fs ++ (total ∷ [])) (sym (map-append (frame piece_kind) came.pieces (one ∷ [])));
      };
      kind_is = refl;
    }

dump_goes_on : (frames : List Frame) (text : List ℕ) (kind : ℕ) → PiecesCame frames text → length text + 1 < 2 ^ 64
    → is_of_dump kind ≡ true → Completes frames kind
dump_goes_on frames text kind came lt may =
    pick (nat_eq kind piece_kind)
    (λ e. subst (Completes frames) (sym (eqb-true kind piece_kind e)) (piece_goes_on frames text came lt))
    (λ a. pick (nat_eq kind total_kind) (λ e.
    subst (Completes frames) (sym (eqb-true kind total_kind e)) (total_goes_on frames text came (omega (arith, lt))))
    (λ b. let none : is_of_dump kind ≡ false = rw (a, b) refl in absurd (false≢true (sym none ∙ may))))

-- ---- beginnings

goes_on : (frames : List Frame) (b : Begun) (kind : ℕ) → Describes frames b → length (flat_map text_of frames) < 2 ^ 63
    → may_come b kind ≡ true → Completes frames kind
unfolding may_come
goes_on frames Nothing kind came lt may =
    subst (λ (fs : List Frame). Completes fs kind) (sym came) (first_goes_on kind may)
goes_on frames (Updates asked left got) kind came lt may = update_goes_on frames asked left got kind came may
goes_on frames (Pieces text) kind came lt may = let le =
    dump_long frames text came in dump_goes_on frames text kind came (omega (arith, lt, le)) may

some_kind : (b : Begun) → (kind : ℕ) × (may_come b kind ≡ true)
unfolding may_come
some_kind Nothing = (ask_kind, refl)
some_kind (Updates asked left got) = (update_kind, refl)
some_kind (Pieces text) = (total_kind, refl)

begins : (text : List ℕ) (b : Begun) (h : List ℕ) (kind : ℕ) (came : Came text b h) → Completes came.frames kind
    → (5 ≤ length h → slice_index h 4 ≡ kind) → IsBeginning text
begins text b h kind came goes is = record {
  frames = came.frames;
  rest = h;
  whole = came.whole;
  length_good = came.part.length_good;
  short = came.part.short;
  message = goes.message;
  next = goes.next;
  more = goes.more;
  is_message = goes.is_message;
  are = goes.are;
  kind_is = λ long. is long ∙ goes.kind_is;
}

pub taken_begins : (text : List ℕ) (b : Begun) (h : List ℕ) → IsBytes text → length text < 2 ^ 63
    → fed fresh text ≡ Going b h → IsBeginning text
taken_begins text b h bytes lt is =
    let came = still_came text b h bytes is in
    let len = ap (λ (t : List ℕ). length t) came.whole ∙ length-append (flat_map text_of came.frames) h in
    let short : length (flat_map text_of came.frames) < 2 ^ 63 = omega (arith, lt, len) in
    elim (cases_lt (length h) 5) [
      | inl few ↦
          let k = some_kind b in
          begins text b h k.0 came (goes_on came.frames b k.0 came.describes short k.1)
          (λ long. absurd (omega (arith, few, long)))
      | inr many ↦
          begins text b h (slice_index h 4) came
          (goes_on came.frames b (slice_index h 4) came.describes short (came.part.kind_good many)) (λ _. refl)
    ]
