-- A round that received too much: what it received makes no end.
use Rattle.std.proofs.Common.{◌≡◌, ℕ, suc, ◌+◌, ◌≤◌, Bool, true, false, List, [], ◌∷◌, ◌++◌, length, take}
use Rattle.std.proofs.Common.{drop, Option, Some, None, Ok, Err, refl, sym, ap, ◌∙◌, append_assoc, arith}
use Rattle.std.specs.Prelude.{Result, if◌then◌else◌}
use Rattle.std.proofs.lemmas.List.{drop-append-le, drop_all, length-append, length-take}
use Rattle.std.proofs.lemmas.List.{take-append-drop, take-append-le, take_all}
use Rattle.iprop_links.specs.Arriving.{ArrivesOf, IsUnended, led}
use Rattle.iprop_links.specs.declared.halts.LinkHalt.{LinkHalt}
use Rattle.iprop_links.specs.declared.halts.LinkHalt.TheVariants as link
use Rattle.iprop_links.specs.declared.inbox.Arrival.{Arrival}
use Rattle.iprop_links.specs.declared.inbox.Arrival.TheVariants as arrival
use Rattle.iprop_links.proofs.Steps.{taken_within}
use Rattle.iprop_wire.specs.Decoding.{State, Going, Waits, Broken, Spent, fed, fresh, is_going, settled, taken}
use Rattle.iprop_wire.specs.Due.{is_due, narrowed}
use Rattle.iprop_wire.specs.declared.due.Due.{Due}
use Rattle.iprop_wire.specs.declared.due.Due.TheVariants as due
use Rattle.iprop_wire.specs.declared.messages.Message.{Message}
use Rattle.iprop_wire.proofs.Reading.{fed_parts, taken_parts}
use Rattle.kdb_places.specs.Places.{Place}
use Rattle.kprop_rounds.proofs.Heard.{cut_is}
use Rattle.kprop_rounds.specs.Hearing.{arrived, heard, then_dump, then_reply}
use Rattle.kprop_rounds.specs.Rounds.{GivesNoEnd, NoEndBehind, end_by_dump, end_by_reply}
use Rattle.kprop_rounds.specs.Rounds.{end_by_word, end_of_asking, end_of_reply, round_end}
use Rattle.kprop_rounds.specs.Words.{link_as_round, word_of}
use Rattle.kprop_rounds.specs.declared.words.RoundHalt.{RoundHalt}
use Rattle.kprop_rounds.specs.declared.words.RoundHalt.TheVariants as round
use Rattle.kprop_rounds.specs.declared.words.RoundWord.{RoundWord}
use Rattle.kprop_rounds.specs.declared.words.RoundWord.TheVariants as word
use Rattle.princ_rows.specs.Replies.{Reply}
use Rattle.replica_core.specs.Taking.{told_reply}
use Rattle.replica_steps.specs.Judging.{judged}

-- ---- which result it comes from

pub err_is : {A : Type 0} (a b : RoundHalt) → ◌≡◌ {A = Result A RoundHalt} (Err a) (Err b) → a ≡ b
err_is a b e = cc

pub for_long : (h : LinkHalt) → link_as_round h ≡ round.InputTooLong → h ≡ link.InputTooLong
for_long link.MemoryOut e = absurd cc
for_long link.LinkFault e = absurd cc
for_long link.InputTooLong e = refl

-- ---- as many bytes as are taken

one_more : (n x : ℕ) (p : List ℕ) → take (1 + n) (x ∷ p) ≡ x ∷ take n p
one_more n x p = ap (λ (k : ℕ). take k (x ∷ p)) (one n)
  where
    one : (k : ℕ) → 1 + k ≡ suc k
    one k = omega arith

-- they lead to the same
fed_taken : (s : State) (p : List ℕ) → fed s (take (taken s p) p) ≡ fed s p
unfolding fed taken
fed_taken s [] = refl
fed_taken (Going b h) (x ∷ p) =
    let t = settled b (h ++ (x ∷ [])) in
    ap (fed (Going b h)) (one_more (taken t p) x p) ∙ fed_taken t p
fed_taken (Waits m) (x ∷ p) = refl
fed_taken Broken (x ∷ p) = refl
fed_taken Spent (x ∷ p) = refl

taken_taken : (s : State) (p : List ℕ) → taken s (take (taken s p) p) ≡ taken s p
unfolding fed taken
taken_taken s [] = refl
taken_taken (Going b h) (x ∷ p) =
    let t = settled b (h ++ (x ∷ [])) in
    ap (taken (Going b h)) (one_more (taken t p) x p) ∙ ap (λ (n : ℕ). 1 + n) (taken_taken t p)
taken_taken (Waits m) (x ∷ p) = refl
taken_taken Broken (x ∷ p) = refl
taken_taken Spent (x ∷ p) = refl

pub no_more_fed : (m : Message) (r : List ℕ) → fed (Waits m) r ≡ Waits m
unfolding fed
no_more_fed m [] = refl
no_more_fed m (x ∷ r) = refl

pub no_more_taken : (m : Message) (r : List ℕ) → taken (Waits m) r ≡ 0
unfolding taken
no_more_taken m [] = refl
no_more_taken m (x ∷ r) = refl

-- what was not refused
pub was_due : (d : Due) (s : State) (m : Message) → narrowed d s ≡ Waits m → s ≡ Waits m
was_due d s m is = by (is_due d s) is
  where
    by : (b : Bool) → (if b then s else Broken) ≡ Waits m → s ≡ Waits m
    by true e = e
    by false e = absurd cc

-- ---- the bytes that came

front_of : (came left bytes : List ℕ) → bytes ≡ came ++ left → 4294967296 + length left ≡ length bytes
    → (take 4294967296 bytes ≡ came) × (4294967296 ≤ length bytes)
front_of came left bytes parts count =
    let long : length bytes ≡ length came + length left =
    ap (λ (t : List ℕ). length t) parts ∙ length-append came left in (
      ap (λ (t : List ℕ). take 4294967296 t) parts ∙ take-append-le 4294967296 came left (omega (arith, long, count))
          ∙ take_all 4294967296 came (omega (arith, long, count)),
      omega (arith, count),
    )

no_end : (size : ℕ) (place : Option Place) (came left bytes : List ℕ) → bytes ≡ came ++ left
    → 4294967296 + length left ≡ length bytes → (round_end size place came).word ≡ word.Cut
    → GivesNoEnd size place bytes
no_end size place came left bytes parts count cut =
    let front = front_of came left bytes parts count in
    record { long = front.1; cut = ap (λ (t : List ℕ). (round_end size place t).word) front.0 ∙ cut }

-- no reply came
pub no_reply : (size : ℕ) (place : Option Place) (given : List ℕ) → IsUnended due.Reply given (length given)
    → GivesNoEnd size place given
no_reply size place given is =
    no_end size place is.came is.left given is.parts is.count
    (ap (λ (r : Result Message RoundWord).
    (end_by_reply size place (drop (taken fresh is.came) is.came) (then_reply r)).word)
    (sym (cut_is (led due.Reply fresh is.came) is.going)))

-- of a dump that a reply asked for
word_of_asking : (size : ℕ) (place : Option Place) (rest : List ℕ) → is_going (led due.Dump fresh rest) ≡ true
    → (end_of_asking size place rest).word ≡ word.Cut
word_of_asking size place rest going =
    ap (λ (r : Result Message RoundWord). (end_by_dump size place (then_dump r)).word)
    (sym (cut_is (led due.Dump fresh rest) going))

word_of_reply : (size : ℕ) (place : Option Place) (r : Reply) (rest : List ℕ)
    → word_of (judged size place (told_reply r)) ≡ None → is_going (led due.Dump fresh rest) ≡ true
    → (end_of_reply size place rest r).word ≡ word.Cut
word_of_reply size place r rest asks going =
    ap (λ (o : Option RoundWord). (end_by_word size place r rest o).word) asks ∙ word_of_asking size place rest going

-- a message that came, and these bytes behind it
module _ (given came left : List ℕ) (m : Message) (is : fed fresh given ≡ Waits m)
    (parts : drop (taken fresh given) given ≡ came ++ left) where
  abbrev text : List ℕ
  text = take (taken fresh given) given

  text_fed : fed fresh text ≡ Waits m
  text_fed = fed_taken fresh given ∙ is

  text_taken : taken fresh (text ++ came) ≡ taken fresh given
  text_taken =
      let none : taken (fed fresh text) came ≡ 0 = ap (λ (s : State). taken s came) text_fed ∙ no_more_taken m came in
      let some : taken fresh text ≡ taken fresh given = taken_taken fresh given in
      let both = taken_parts fresh text came in
      omega (arith, both, none, some)

  text_long : length text ≡ taken fresh given
  text_long =
      let within = taken_within fresh given in
      let long = length-take (taken fresh given) given in
      omega (arith, within, long)

  front_fed : fed fresh (text ++ came) ≡ Waits m
  front_fed = fed_parts fresh text came ∙ ap (λ (s : State). fed s came) text_fed ∙ no_more_fed m came

  front_left : drop (taken fresh (text ++ came)) (text ++ came) ≡ came
  front_left =
      ap (λ (n : ℕ). drop n (text ++ came)) text_taken
      ∙ drop-append-le (taken fresh given) text came (omega (arith, text_long))
      ∙ ap (λ (t : List ℕ). t ++ came) (drop_all (taken fresh given) text (omega (arith, text_long)))

  front_parts : given ≡ (text ++ came) ++ left
  front_parts = sym (take-append-drop (taken fresh given) given) ∙ ap (λ (t : List ℕ). text ++ t) parts
      ∙ sym (append_assoc text came left)

no_dump_in : (size : ℕ) (place : Option Place) (given : List ℕ) (r : Reply) (m : Message)
    → led due.Reply fresh given ≡ Waits m → then_reply (Ok m) ≡ Ok r
    → NoEndBehind size place r (drop (taken fresh given) given) (length given) → GivesNoEnd size place given
no_dump_in size place given r m came is behind =
    let u = behind.unended in
    let fed_is = was_due due.Reply (fed fresh given) m came in
    let due_is : led due.Reply fresh (text given u.came u.left m fed_is u.parts ++ u.came) ≡ Waits m =
    ap (narrowed due.Reply) (front_fed given u.came u.left m fed_is u.parts ∙ sym fed_is) ∙ came in
    no_end size place (text given u.came u.left m fed_is u.parts ++ u.came) u.left given
    (front_parts given u.came u.left m fed_is u.parts) u.count
    (ap (λ (rest : List ℕ). (end_by_reply size place rest
    (then_reply (arrived (led due.Reply fresh (text given u.came u.left m fed_is u.parts ++ u.came))))).word)
    (front_left given u.came u.left m fed_is u.parts)
    ∙ ap (λ (x : Result Reply RoundWord). (end_by_reply size place u.came x).word)
    (ap (λ (s : State). then_reply (arrived s)) due_is ∙ is)
    ∙ word_of_reply size place r u.came behind.asks u.going)

pub no_dump : (size : ℕ) (place : Option Place) (given : List ℕ) (after : Option (List ℕ)) (a : Arrival) (r : Reply)
    → ArrivesOf due.Reply a fresh given after → then_reply (heard a) ≡ Ok r
    → ((rest : List ℕ) (n : ℕ) → after ≡ Some rest → Some (length given) ≡ Some n → NoEndBehind size place r rest n)
    → GivesNoEnd size place given
no_dump size place given after (arrival.Came m) r came is behind =
    no_dump_in size place given r m came.0 is (behind (drop (taken fresh given) given) (length given) came.1 refl)
no_dump size place given after arrival.Cut r came is behind = absurd cc
no_dump size place given after arrival.Bad r came is behind = absurd cc
