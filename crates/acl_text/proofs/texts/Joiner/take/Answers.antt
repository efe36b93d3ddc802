use Rattle.std.proofs.Common.{◌≡◌, ◌+◌, true, None, Result, Ok, Err, OnOk, List, ℕ, [], ◌∷◌, ◌++◌, refl}
use Rattle.acl_text.proofs.TextLemmas.{takes_front, takes_end}
use Rattle.acl_text.specs.Joining.{TakesPiece}
use Rattle.acl_text.specs.Texts.{carried}
use Rattle.acl_text.specs.declared.texts.Joiner.{Joiner}
use Rattle.acl_text.proofs.texts.Joiner.take.Goals as goal

ends_line : {T E : Type 0} (r : Result T E) (at : ℕ) (piece : List ℕ) (more : _) (old new : Joiner)
    → (more ≡ true → carried piece ≡ None)
    → OnOk r
    (new.lines.items ≡ old.lines.items ++ record { number = old.first + 1; text = old.text.items ++ piece } ∷ [])
    → OnOk r (new.text.items ≡ []) → OnOk r (new.first ≡ at + 1) → OnOk r (TakesPiece at piece more old new)
ends_line (Ok x) at piece more old new none lines text first = takes_end at piece more old new none lines text first
ends_line (Err e) at piece more old new none lines text first = tt

pub returns-in_ok-extend_from_slice-in-Some-clause-taken : goal.returns-in_ok-extend_from_slice-in-Some-clause-taken
returns-in_ok-extend_from_slice-in-Some-clause-taken c =
    takes_front c.args.at c.args.piece.now c.in-Some.front.now c.args.more c.args.self.now _ c.in-Some.ensures.more
    c.in-Some.ensures.front
    refl c.in_ok-extend_from_slice-in-Some.ensures.items refl

pub returns-in-None-clause-taken : goal.returns-in-None-clause-taken
returns-in-None-clause-taken c =
    ends_line c.end_line.result c.args.at c.args.piece.now c.args.more c.args.self.now c.end_line.new.self
    (c.in-None.ensures.none refl)
    c.end_line.ensures.lines c.end_line.ensures.text c.end_line.ensures.first
