-- The first place whose byte is a line feed, as the search tells it.
use Rattle.std.proofs.Common.{◌≡◌, ℕ, ◌+◌, true, List, take, drop, Option, Some, None, IfSome, arith}
use Rattle.memchr.specs.Find.{IsFirstByte, is_byte}
use Rattle.kadm_lines.specs.Windows.{Parts, lacks_feed}
use Rattle.kadm_lines.proofs.Ranges.{parts-at, lacks-nowhere}
use Rattle.kadm_lines.proofs.windows.find_feed.Goals as goal

found : (hay : List ℕ) (r : Option ℕ) → IsFirstByte (is_byte 10) hay r
    → IfSome r (λ place. Parts hay (take place hay) (drop (place + 1) hay))
found hay None first = tt
found hay (Some k) first = parts-at hay k (first.0.high) (first.1) (λ j lt is. first.0.before j (omega arith) lt is)

missed : (hay : List ℕ) (r : Option ℕ) → IsFirstByte (is_byte 10) hay r → r ≡ None → lacks_feed hay ≡ true
missed hay None first is = lacks-nowhere hay (λ k lt at. first k (omega arith) lt at)
missed hay (Some k) first is = cc

pub returns-clause-feed : goal.returns-clause-feed
returns-clause-feed c = found c.args.bytes.now c.memchr.result c.memchr.ensures

pub returns-clause-none : goal.returns-clause-none
returns-clause-none c = missed c.args.bytes.now c.memchr.result c.memchr.ensures
