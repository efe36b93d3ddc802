-- A dump as the answer to a line.
use Rattle.std.proofs.Common.{◌≡◌, ◌∙◌, ℕ, List, [], codes, refl, ap, sym, append-nil}
use Rattle.std.specs.Prelude.{Option, Some, None, option_map}
use Rattle.dump_text.proofs.Parts.{said_more, said_next}
use Rattle.kdb_base.specs.Moment.{Moment}
use Rattle.kdb_places.specs.Places.{Place}
use Rattle.kdb_ports.proofs.Told.{after_told-append}
use Rattle.kdb_ports.specs.Parts.{SaidPart}
use Rattle.kdb_ports.specs.Told.{after_told, later_bytes, later_moments}
use Rattle.session_base.specs.Draws.{behind_command, told_draws}
use Rattle.kadm_session.specs.Dumping.{dump_answer, dump_lines}

-- a moment and a block are gone
pub draws_gone : (moments moments' : Option (ℕ → Moment)) (stream stream' : Option (ℕ → ℕ))
    → moments' ≡ option_map later_moments moments → stream' ≡ option_map (later_bytes 2048) stream
    → told_draws moments' stream' ≡ option_map behind_command (told_draws moments stream)
draws_gone moments moments' stream stream' first second = (λ i. told_draws (first i) (second i)) ∙ by moments stream
  where
    by : (m : Option (ℕ → Moment)) (b : Option (ℕ → ℕ)) → told_draws (option_map later_moments m)
        (option_map (later_bytes 2048) b) ≡ option_map behind_command (told_draws m b)
    by None b = refl
    by (Some m) None = refl
    by (Some m) (Some b) = refl

-- the lines were written, and then `ok`
pub said_whole : (p : Place) (old mid new : Option (List ℕ)) → mid ≡ after_told old (dump_lines p)
    → new ≡ after_told mid (codes "ok\n") → new ≡ after_told old (dump_answer p)
unfolding dump_answer
said_whole p old mid new first second = second ∙ ap (λ (t : Option (List ℕ)). after_told t (codes "ok\n")) first
    ∙ after_told-append old (dump_lines p) (codes "ok\n")

-- the lines were written, and a front of what follows
pub said_end : (p : Place) (old mid new : Option (List ℕ)) → mid ≡ after_told old (dump_lines p)
    → SaidPart (codes "ok\n") mid new → SaidPart (dump_answer p) old new
unfolding dump_answer
said_end p old mid new first part =
    said_next [] (dump_lines p) (codes "ok\n") [] old mid new
    (record { front = dump_lines p; parts = sym (append-nil (dump_lines p)); told = first }) part

-- a front of the lines was written
pub said_lines : (p : Place) (old new : Option (List ℕ)) → SaidPart (dump_lines p) old new
    → SaidPart (dump_answer p) old new
unfolding dump_answer
said_lines p old new part = said_more (dump_lines p) (codes "ok\n") old new part
