-- What is written of a message spells it.
use Rattle.std.proofs.Common.{◌≡◌, ℕ, zero, suc, ◌<◌, ◌≤◌, List, [], ◌∷◌, ◌++◌}
use Rattle.std.proofs.Common.{length, take, drop, map, refl, sym, ap, ◌∙◌, arith}
use Rattle.std.specs.List.{AllByRecursion, flat_map}
use Rattle.std.proofs.lemmas.Grind.{flat_map-append}
use Rattle.std.proofs.lemmas.List.{append-nil, length-drop, length-take, take-append-drop}
use Rattle.std.proofs.lemmas.List.Elements.{All-from_recursion}
use Rattle.kdb_format.specs.Moments.{point}
use Rattle.kdb_format.specs.Spellings.{big}
use Rattle.princ_rows.specs.declared.entries.Entry.{Entry}
use Rattle.iprop_wire.specs.Frames.{Frame, frame, text_of, frame_text, most_behind, hello_kind}
use Rattle.iprop_wire.specs.Frames.{poll_kind, ask_kind, reply_kind, piece_kind, total_kind}
use Rattle.iprop_wire.specs.Messages.{dump_frames, head_of, head_text, message_text, pieces_text, update_text}
use Rattle.iprop_wire.specs.Spelled.{IsMessage, IsPiece, IsUncut, Spells, update_frame}
use Rattle.iprop_wire.specs.declared.messages.Message.{Message}
use Rattle.iprop_wire.specs.declared.messages.Message.TheVariants.{Hello, Poll, Ask, Reply, DumpText}
use Rattle.iprop_wire.proofs.Pieces.{no_pieces, some_pieces}

-- the pieces that are written of a dump
record AreCut (n : ℕ) (text : List ℕ) : Type 0 where
  pieces : List (List ℕ)
  texts : pieces_text n text ≡ flat_map text_of (map (frame piece_kind) pieces)
  are : AllByRecursion IsPiece pieces
  whole : length text ≤ n → flat_map (λ piece. piece) pieces ≡ text

no_turns : (text : List ℕ) → pieces_text 0 text ≡ []
unfolding pieces_text
no_turns text = refl

first_piece : (text : List ℕ) → 0 < length text → IsPiece (take most_behind text)
first_piece text some = let len = length-take most_behind text in (omega (arith, some, len), omega (arith, len))

cut_more : (n : ℕ) (text : List ℕ) → 0 < length text → AreCut n (drop most_behind text) → AreCut (suc n) text
cut_more n text some rest = record {
  pieces = take most_behind text ∷ rest.pieces;
  texts = some_pieces n text some ∙ ap (λ (t : List ℕ). frame_text piece_kind (take most_behind text) ++ t) rest.texts;
  are = (first_piece text some, rest.are);
  whole = λ le. ap (λ (t : List ℕ). take most_behind text ++ t)
      (rest.whole (omega (arith, length-drop most_behind text, le, some))) ∙ take-append-drop most_behind text;
}

cut : (n : ℕ) (text : List ℕ) → AreCut n text
cut n [] = record { pieces = []; texts = no_pieces n; are = tt; whole = λ _. refl }
cut zero (x ∷ xs) = record { pieces = []; texts = no_turns (x ∷ xs); are = tt; whole = λ le. absurd (omega arith) }
cut (suc n) (x ∷ xs) = cut_more n (x ∷ xs) (omega arith) (cut n (drop most_behind (x ∷ xs)))

updates_same : (us : List Entry) → flat_map update_text us ≡ flat_map text_of (map update_frame us)
unfolding update_text
updates_same [] = refl
updates_same (e ∷ us) = ap (λ (t : List ℕ). text_of (update_frame e) ++ t) (updates_same us)

pub message_spelled : (m : Message) → IsMessage m → Spells (message_text m) m
unfolding message_text dump_frames
message_spelled (Hello name) is = record {
  is_message = is;
  frames = frame hello_kind name ∷ [];
  are = refl;
  whole = sym (append-nil (frame_text hello_kind name));
}
message_spelled (Poll asked) is = record {
  is_message = is;
  frames = frame poll_kind (point asked) ∷ [];
  are = refl;
  whole = sym (append-nil (frame_text poll_kind (point asked)));
}
message_spelled Ask is = record {
  is_message = is;
  frames = frame ask_kind [] ∷ [];
  are = refl;
  whole = sym (append-nil (frame_text ask_kind []));
}
message_spelled (Reply r) is = record {
  is_message = is;
  frames = frame reply_kind (head_text (head_of r)) ∷ map update_frame r.updates;
  are = refl;
  whole = ap (λ (t : List ℕ). frame_text reply_kind (head_text (head_of r)) ++ t) (updates_same r.updates);
}
message_spelled (DumpText text) is =
    let c = cut (length text) text in
    let total = frame total_kind (big 8 (length text)) in
    record {
      is_message = is;
      frames = map (frame piece_kind) c.pieces ++ (total ∷ []);
      are = record {
        pieces = c.pieces;
        are = All-from_recursion IsPiece c.pieces c.are;
        whole = c.whole (omega arith);
        frames_are = refl;
      };
      whole =
          ap (λ (t : List ℕ). t ++ text_of total) c.texts
          ∙ ap (λ (t : List ℕ). flat_map text_of (map (frame piece_kind) c.pieces) ++ t)
          (sym (append-nil (text_of total)))
          ∙ sym (flat_map-append text_of (map (frame piece_kind) c.pieces) (total ∷ []));
    }

-- what spells a message that is no dump is what is written of it
pub one_text : (text : List ℕ) (m : Message) → IsUncut m → Spells text m → text ≡ message_text m
unfolding message_text
one_text text (Hello name) uncut s =
    s.whole ∙ ap (λ (fs : List Frame). flat_map text_of fs) s.are ∙ append-nil (frame_text hello_kind name)
one_text text (Poll asked) uncut s =
    s.whole ∙ ap (λ (fs : List Frame). flat_map text_of fs) s.are ∙ append-nil (frame_text poll_kind (point asked))
one_text text Ask uncut s =
    s.whole ∙ ap (λ (fs : List Frame). flat_map text_of fs) s.are ∙ append-nil (frame_text ask_kind [])
one_text text (Reply r) uncut s =
    s.whole ∙ ap (λ (fs : List Frame). flat_map text_of fs) s.are
    ∙ ap (λ (t : List ℕ). frame_text reply_kind (head_text (head_of r)) ++ t) (sym (updates_same r.updates))
one_text text (DumpText dump) uncut s = absurd uncut
