-- The two ways of a change: the log as it is, and one begun anew before it.
use Rattle.std.proofs.Common.{◌≡◌, ◌≢◌, ℕ, ◌<◌, Bool, true, false, ◌||◌, List, []}
use Rattle.std.proofs.Common.{◌∷◌, Option, Some, None, refl, sym, ◌∙◌, ap, arith}
use Rattle.std.specs.Prelude.{nat_eq, nat_le}
use Rattle.std.proofs.lemmas.Bool.{eq-eqb, leb-false, true≢false}
use Rattle.kdb_histories.specs.Asks.{Ask, Enters, Keeps, Kind, Stashes, clock_of}
use Rattle.kdb_histories.specs.Seen.{Put, did, moment_at, planned, reset_for, reset_point}
use Rattle.kdb_histories.specs.Stages.{Anew, Stage, stage}
use Rattle.kdb_places.specs.Places.{Place, committed}
use Rattle.princ_rows.specs.declared.entries.Op.{Op}

abbrev pub made_next : Ask → Op → Place → List Stage
made_next ask op p = did ask false op p (committed op (moment_at (clock_of ask) p) p) ∷ []

abbrev pub made_due : Ask → Op → Place → Stage
made_due ask op p = did ask true op p (committed op (reset_point (clock_of ask) p).time (reset_for (clock_of ask) op p))

abbrev pub made_anew : Ask → Op → Place → List Stage
made_anew ask op p = stage (reset_for (clock_of ask) op p) Anew ∷ made_due ask op p ∷ []

-- ---- what is put was entered, and is the change that would be made

pub put_kind : (kind : Kind) (kept : Option Op) (bytes : List ℕ) (op : Op) → Put op ≡ planned kind kept bytes
    → kind ≡ Enters
put_kind Keeps kept bytes op e = absurd cc
put_kind Enters None bytes op e = refl
put_kind Enters (Some made) bytes op e = refl
put_kind Stashes kept bytes op e = absurd cc

pub put_op : (kind : Kind) (kept : Option Op) (bytes : List ℕ) (op : Op) → Put op ≡ planned kind kept bytes
    → kept ≡ Some op
put_op Keeps kept bytes op e = absurd cc
put_op Enters None bytes op e = absurd cc
put_op Enters (Some made) bytes op e = cc
put_op Stashes kept bytes op e = absurd cc

-- ---- a log that need not begin anew

pub not_last : (n : ℕ) (long : Bool) → (nat_eq n 4294967295 || long) ≡ false → n ≢ 4294967295
not_last n long e is = true≢false (sym (ap (λ b. b || long) (eq-eqb n 4294967295 is)) ∙ e)

pub not_long : (last : Bool) (n block : ℕ) → (last || nat_le block n) ≡ false → n < block
not_long true n block e = absurd (true≢false e)
not_long false n block e = omega (arith, leb-false block n e)
