-- What came, by the bytes that a connection gives.
use Rattle.std.proofs.Common.{◌≡◌, ℕ, true, List, Option, Err, refl, sym, ap}
use Rattle.iprop_links.specs.Arriving.{ArrivesOf, led}
use Rattle.iprop_links.specs.declared.inbox.Arrival.{Arrival}
use Rattle.iprop_links.specs.declared.inbox.Arrival.TheVariants as arrival
use Rattle.iprop_wire.specs.Decoding.{State, Going, Waits, Broken, Spent, fresh, is_going}
use Rattle.iprop_wire.specs.declared.due.Due.{Due}
use Rattle.kprop_rounds.specs.Hearing.{arrived, heard}
use Rattle.kprop_rounds.specs.declared.words.RoundWord.TheVariants as word

pub cut_is : (s : State) → is_going s ≡ true → Err word.Cut ≡ arrived s
cut_is (Going b h) e = refl
cut_is (Waits m) e = absurd cc
cut_is Broken e = absurd cc
cut_is Spent e = absurd cc

pub heard_is : (d : Due) (a : Arrival) (before : List ℕ) (after : Option (List ℕ)) → ArrivesOf d a fresh before after
    → heard a ≡ arrived (led d fresh before)
heard_is d (arrival.Came m) before after is = sym (ap arrived is.0)
heard_is d arrival.Cut before after is = cut_is (led d fresh before) is
heard_is d arrival.Bad before after is = sym (ap arrived is)
