-- A round that was done: what it received makes an end.
use Rattle.std.proofs.Common.{◌≡◌, ℕ, ◌+◌, Bool, true, false, List, ◌++◌, length, take, drop, Option}
use Rattle.std.proofs.Common.{Some, None, Ok, Err, inl, inr, refl, sym, ap, subst, ◌∙◌, arith}
use Rattle.std.specs.Prelude.{◌⊎◌, Result, OnOk, if◌then◌else◌}
use Rattle.std.proofs.lemmas.List.{drop-append-le, length-append, length-take, take-append-drop}
use Rattle.dump_text.specs.Judged.{judged as dump_judged}
use Rattle.dump_text.specs.declared.dumps.Dump.{Dump}
use Rattle.iprop_links.specs.Arriving.{ArrivesOf, IsUnended, led}
use Rattle.iprop_links.specs.declared.inbox.Arrival.{Arrival}
use Rattle.iprop_links.specs.declared.inbox.Arrival.TheVariants as arrival
use Rattle.iprop_links.proofs.Steps.{taken_within}
use Rattle.iprop_reply.specs.Polls.{is_point}
use Rattle.iprop_wire.specs.Decoding.{State, Going, Waits, Broken, Spent, fed, fresh, is_going, taken}
use Rattle.iprop_wire.specs.Due.{narrowed}
use Rattle.iprop_wire.specs.declared.due.Due.TheVariants as due
use Rattle.iprop_wire.specs.declared.messages.Message.{Message}
use Rattle.iprop_wire.specs.declared.messages.Message.TheVariants as message
use Rattle.iprop_wire.proofs.Reading.{fed_parts, taken_parts}
use Rattle.kdb_places.specs.Places.{Place, no_point}
use Rattle.kprop_rounds.proofs.Heard.{heard_is}
use Rattle.kprop_rounds.proofs.Overlong.{no_more_fed, no_more_taken, was_due}
use Rattle.kprop_rounds.specs.Hearing.{arrived, heard, refusal_by, then_dump, then_reply}
use Rattle.kprop_rounds.specs.Rounds.{GivesNoEnd, NoEndBehind, end_by_dump, end_by_reply, end_by_word, end_of_dump}
use Rattle.kprop_rounds.specs.Words.{word_of}
use Rattle.kprop_rounds.specs.declared.words.RoundHalt.{RoundHalt}
use Rattle.kprop_rounds.specs.declared.words.RoundWord.{RoundWord}
use Rattle.kprop_rounds.specs.declared.words.RoundWord.TheVariants as word
use Rattle.princ_rows.specs.Replies.{Reply}
use Rattle.princ_rows.specs.declared.replies.ReplyCode.{ReplyCode}
use Rattle.princ_rows.specs.declared.replies.ReplyCode.TheVariants as code
use Rattle.replica_core.specs.Taking.{told_reply}
use Rattle.replica_steps.specs.Judging.{Judged, WrongPoint, Gap, Updated, Nil, Resync, Busy, Denied, judged}

-- ---- of a result

pub ok_any : {A E P : Type 0} (r : Result A E) → P → OnOk r P
ok_any (Ok x) p = p
ok_any (Err e) p = tt

pub on_ok : {A E P Q : Type 0} (r : Result A E) → (P → Q) → OnOk r P → OnOk r Q
on_ok (Ok x) f p = f p
on_ok (Err e) f p = tt

-- ---- which ends are cut

judged_not : (j : Judged) → word_of j ≡ Some word.Cut → ⊥
judged_not (WrongPoint reply mine) e = absurd cc
judged_not (Gap want found) e = absurd cc
judged_not (Updated count) e = absurd cc
judged_not Nil e = absurd cc
judged_not Resync e = absurd cc
judged_not Busy e = absurd cc
judged_not Denied e = absurd cc

refused_not : (b : Bool) (c : ReplyCode) → (if b then refusal_by c else word.BadFrame) ≡ word.Cut → ⊥
refused_not false c e = absurd cc
refused_not true code.UpdateOk e = absurd cc
refused_not true code.FullResyncNeeded e = absurd cc
refused_not true code.Busy e = absurd cc
refused_not true code.Nil e = absurd cc
refused_not true code.PermDenied e = absurd cc

dump_not : (size : ℕ) (place : Option Place) (j : Result Dump ℕ) → (end_of_dump size place j).word ≡ word.Cut → ⊥
dump_not size place (Ok dump) e = absurd cc
dump_not size place (Err line) e = absurd cc

-- of a dump that is awaited
dump_going : (size : ℕ) (place : Option Place) (s : State)
    → (end_by_dump size place (then_dump (arrived s))).word ≡ word.Cut → is_going s ≡ true
dump_going size place (Going b h) cut = refl
dump_going size place (Waits (message.Hello name)) cut = absurd cc
dump_going size place (Waits (message.Poll asked)) cut = absurd cc
dump_going size place (Waits message.Ask) cut = absurd cc
dump_going size place (Waits (message.Reply r)) cut = absurd (refused_not (is_point r.asked no_point) r.code cut)
dump_going size place (Waits (message.DumpText text)) cut = absurd (dump_not size place (dump_judged text) cut)
dump_going size place Broken cut = absurd cc
dump_going size place Spent cut = absurd cc

-- a reply came that asks for a dump, and the dump is awaited
record AwaitsDump (size : ℕ) (place : Option Place) (s : State) (rest : List ℕ) : Type 0 where
  reply : Reply
  waits : s ≡ Waits (message.Reply reply)
  asks : word_of (judged size place (told_reply reply)) ≡ None
  going : is_going (led due.Dump fresh rest) ≡ true

by_word : (size : ℕ) (place : Option Place) (r : Reply) (rest : List ℕ) (o : Option RoundWord)
    → word_of (judged size place (told_reply r)) ≡ o → (end_by_word size place r rest o).word ≡ word.Cut
    → AwaitsDump size place (Waits (message.Reply r)) rest
by_word size place r rest (Some w) is cut = absurd (judged_not (judged size place (told_reply r)) (is ∙ ap Some cut))
by_word size place r rest None is cut =
    record { reply = r; waits = refl; asks = is; going = dump_going size place (led due.Dump fresh rest) cut }

reply_going : (size : ℕ) (place : Option Place) (s : State) (rest : List ℕ)
    → (end_by_reply size place rest (then_reply (arrived s))).word ≡ word.Cut
    → (is_going s ≡ true) ⊎ AwaitsDump size place s rest
reply_going size place (Going b h) rest cut = inl refl
reply_going size place (Waits (message.Hello name)) rest cut = absurd cc
reply_going size place (Waits (message.Poll asked)) rest cut = absurd cc
reply_going size place (Waits message.Ask) rest cut = absurd cc
reply_going size place (Waits (message.Reply r)) rest cut =
    inr (by_word size place r rest (word_of (judged size place (told_reply r))) refl cut)
reply_going size place (Waits (message.DumpText text)) rest cut = absurd cc
reply_going size place Broken rest cut = absurd cc
reply_going size place Spent rest cut = absurd cc

-- ---- of a front of the bytes, and of all

-- a message that came in a front of them came in all, and what came behind it in the front begins what did
module _ (given came left : List ℕ) (m : Message) (parts : came ++ left ≡ given)
    (waits : led due.Reply fresh came ≡ Waits m) where
  came_fed : fed fresh came ≡ Waits m
  came_fed = was_due due.Reply (fed fresh came) m waits

  all_waits : led due.Reply fresh given ≡ Waits m
  all_waits =
      ap (λ (t : List ℕ). led due.Reply fresh t) (sym parts)
      ∙ ap (narrowed due.Reply)
      (fed_parts fresh came left ∙ ap (λ (s : State). fed s left) came_fed ∙ no_more_fed m left ∙ sym came_fed)
      ∙ waits

  same_taken : taken fresh given ≡ taken fresh came
  same_taken =
      let none : taken (fed fresh came) left ≡ 0 = ap (λ (s : State). taken s left) came_fed ∙ no_more_taken m left in
      let both = taken_parts fresh came left in
      ap (taken fresh) (sym parts) ∙ omega (arith, both, none)

  all_left : drop (taken fresh given) given ≡ drop (taken fresh came) came ++ left
  all_left =
      ap (λ (n : ℕ). drop n given) same_taken
      ∙ ap (λ (t : List ℕ). drop (taken fresh came) t) (sym parts)
      ∙ drop-append-le (taken fresh came) came left (taken_within fresh came)

-- ---- a round whose connection gives no end

-- a reply came, and the dump that it asks for does not end
record GivesNoDump (size : ℕ) (place : Option Place) (given : List ℕ) : Type 0 where
  reply : Reply
  waits : led due.Reply fresh given ≡ Waits (message.Reply reply)
  behind : NoEndBehind size place reply (drop (taken fresh given) given) (length given)

module _ (size : ℕ) (place : Option Place) (given : List ℕ) (gives : GivesNoEnd size place given) where
  abbrev came : List ℕ
  came = take 4294967296 given

  abbrev left : List ℕ
  left = drop 4294967296 given

  parts : came ++ left ≡ given
  parts = take-append-drop 4294967296 given

  count : 4294967296 + length left ≡ length given
  count =
      let both : length came + length left ≡ length given =
      sym (length-append came left) ∙ ap (λ (t : List ℕ). length t) parts in
      let long = gives.long in
      let front = length-take 4294967296 given in
      omega (arith, both, long, front)

  by_end : (is_going (led due.Reply fresh came) ≡ true)
      ⊎ AwaitsDump size place (led due.Reply fresh came) (drop (taken fresh came) came)
      → IsUnended due.Reply given (length given) ⊎ GivesNoDump size place given
  by_end (inl going) = inl (record { came = came; left = left; parts = sym parts; count = count; going = going })
  by_end (inr awaits) = inr (record {
    reply = awaits.reply;
    waits = all_waits given came left (message.Reply awaits.reply) parts awaits.waits;
    behind = record {
      asks = awaits.asks;
      unended = record {
        came = drop (taken fresh came) came;
        left = left;
        parts = all_left given came left (message.Reply awaits.reply) parts awaits.waits;
        count = count;
        going = awaits.going;
      };
    };
  })

  no_end_of : IsUnended due.Reply given (length given) ⊎ GivesNoDump size place given
  no_end_of = by_end (reply_going size place (led due.Reply fresh came) (drop (taken fresh came) came) gives.cut)

-- ---- what was answered

err_not : {A E : Type 0} (x : A) (e : E) (r : Result A E) → r ≡ Ok x → r ≡ Err e → ⊥
err_not x e r one other = differ x e (sym one ∙ other)
  where
    differ : {A E : Type 0} (x : A) (e : E) → Ok x ≡ Err e → ⊥
    differ x e is = absurd cc

ok_is : (a b : Reply) → ◌≡◌ {A = Result Reply RoundWord} (Ok a) (Ok b) → a ≡ b
ok_is a b e = cc

module _ (size : ℕ) (place : Option Place) (given : List ℕ) (after : Option (List ℕ)) (a : Arrival)
    (arrives : ArrivesOf due.Reply a fresh given after)
    (ended : IsUnended due.Reply given (length given) → ⊥) where
  heard_as : (r : Reply) → led due.Reply fresh given ≡ Waits (message.Reply r) → then_reply (heard a) ≡ Ok r
  heard_as r waits =
      ap then_reply (heard_is due.Reply a given after arrives) ∙ ap (λ (s : State). then_reply (arrived s)) waits

  -- no reply was taken
  pub unanswered : (w : RoundWord) → then_reply (heard a) ≡ Err w → GivesNoEnd size place given → ⊥
  unanswered w is gives = by_no_end (no_end_of size place given gives)
    where
      by_no_end : IsUnended due.Reply given (length given) ⊎ GivesNoDump size place given → ⊥
      by_no_end (inl unended) = ended unended
      by_no_end (inr no_dump) = err_not no_dump.reply w (then_reply (heard a)) (heard_as no_dump.reply no_dump.waits) is

  -- one was, and what came behind it makes an end
  answered_not : (r : Reply) → then_reply (heard a) ≡ Ok r
      → (NoEndBehind size place r (drop (taken fresh given) given) (length given) → ⊥) → GivesNoEnd size place given → ⊥
  answered_not r is behind gives = by_no_end (no_end_of size place given gives)
    where
      by_no_end : IsUnended due.Reply given (length given) ⊎ GivesNoDump size place given → ⊥
      by_no_end (inl unended) = ended unended
      by_no_end (inr no_dump) =
          behind (subst (λ (x : Reply). NoEndBehind size place x (drop (taken fresh given) given) (length given))
          (ok_is no_dump.reply r (sym (heard_as no_dump.reply no_dump.waits) ∙ is)) no_dump.behind)

  pub answered : (result : Result RoundWord RoundHalt) (r : Reply) → then_reply (heard a) ≡ Ok r
      → after ≡ Some (drop (taken fresh given) given)
      → ((rest : List ℕ) (n : ℕ) → after ≡ Some rest → Some (length given) ≡ Some n
      → OnOk result (NoEndBehind size place r rest n → ⊥)) → OnOk result (GivesNoEnd size place given → ⊥)
  answered result r is left_is behind =
      on_ok result (answered_not r is) (behind (drop (taken fresh given) given) (length given) left_is refl)

-- what is left behind a reply that came
pub left_behind : (given : List ℕ) (after : Option (List ℕ)) (a : Arrival) (r : Reply)
    → ArrivesOf due.Reply a fresh given after → then_reply (heard a) ≡ Ok r
    → after ≡ Some (drop (taken fresh given) given)
left_behind given after (arrival.Came m) r arrives is = arrives.1
left_behind given after arrival.Cut r arrives is = absurd cc
left_behind given after arrival.Bad r arrives is = absurd cc

-- a dump was not asked for
pub not_asked : (size : ℕ) (place : Option Place) (r : Reply) (rest : List ℕ) (n : ℕ) (w : RoundWord)
    (o : Option RoundWord) → Some w ≡ o → word_of (judged size place (told_reply r)) ≡ o
    → NoEndBehind size place r rest n → ⊥
not_asked size place r rest n w o some is behind = differ (some ∙ sym is ∙ behind.asks)
  where
    differ : Some w ≡ None → ⊥
    differ e = absurd cc
