-- A round behind its reply.
use Rattle.std.proofs.Common.{◌≡◌, ℕ, true, false, List, [], ◌∷◌, drop, Option}
use Rattle.std.proofs.Common.{Some, None, Ok, Err, refl, sym, ap, subst, ◌∙◌, inl}
use Rattle.std.specs.Prelude.{◌⊎◌, Result, OnErr, OnOk}
use Rattle.dump_text.specs.Judged.{judged as dump_judged}
use Rattle.dump_text.specs.declared.dumps.Dump.{Dump}
use Rattle.iprop_links.specs.Asking.{MaySay, greeting, later_in, sent_in}
use Rattle.iprop_links.specs.declared.inbox.Arrival.{Arrival}
use Rattle.iprop_links.specs.declared.inbox.Arrival.TheVariants as arrival
use Rattle.iprop_links.specs.Arriving.{ArrivesOf, led}
use Rattle.iprop_wire.specs.Decoding.{State, fresh, taken}
use Rattle.iprop_wire.specs.Messages.{message_text}
use Rattle.iprop_wire.specs.declared.due.Due.TheVariants as due
use Rattle.iprop_wire.specs.declared.messages.Message.{Message}
use Rattle.iprop_wire.specs.declared.messages.Message.TheVariants.{Ask, Poll}
use Rattle.kdb_disk.proofs.Runs.{weaken}
use Rattle.kdb_disk.specs.Files.{Files}
use Rattle.kdb_disk.specs.Frames.{IsCrashSafe}
use Rattle.kdb_disk.specs.declared.disk.Disk.{Ghosts}
use Rattle.kdb_places.specs.Places.{Place}
use Rattle.kdb_ports.specs.Links.{Wire, after_sent, behind_first, first_of}
use Rattle.kprop_rounds.proofs.Heard.{heard_is}
use Rattle.kprop_rounds.proofs.Judgements.{is_resync, made_none}
use Rattle.kprop_rounds.proofs.Sayings.{may_say, on_err, on_ok, say_more, sent_asking}
use Rattle.kprop_rounds.specs.Hearing.{arrived, heard, then_dump, then_reply}
use Rattle.kprop_rounds.specs.Rounds.{EndsAs, IsRound, IsRoundOf, LeavesSome, MayAsk, RoundEnd}
use Rattle.kprop_rounds.specs.Rounds.{after_asking, asking, end_by_dump, end_by_reply, end_by_word}
use Rattle.kprop_rounds.specs.Rounds.{end_of_asking, end_of_dump, end_of_reply, round_end}
use Rattle.kprop_rounds.specs.Words.{word_of}
use Rattle.kprop_rounds.specs.declared.words.RoundHalt.{RoundHalt}
use Rattle.kprop_rounds.specs.declared.words.RoundWord.{RoundWord}
use Rattle.princ_rows.specs.Replies.{Reply}
use Rattle.replica_core.proofs.Judgements.{part_before}
use Rattle.replica_core.proofs.Ways.{leaves_here}
use Rattle.replica_core.specs.Opened.{LeavesFirst, LeavesMade}
use Rattle.replica_core.specs.Taking.{told_reply}
use Rattle.replica_steps.specs.Bridges.{MayBePart}
use Rattle.replica_steps.specs.Judging.{judged, point_in}
use Rattle.replica_steps.specs.Replicas.{Take, place_after, task_makes}
use Rattle.store_files.specs.Recovery.{HasNone, LeavesPart}

-- ---- behind an asking

asks_dump : (size : ℕ) (place : Option Place) (r : Result Dump ℕ) → (end_of_dump size place r).asks ≡ true
asks_dump size place (Ok dump) = refl
asks_dump size place (Err line) = refl

asks_by : (size : ℕ) (place : Option Place) (r : Result (List ℕ) RoundWord) → (end_by_dump size place r).asks ≡ true
asks_by size place (Ok text) = asks_dump size place (dump_judged text)
asks_by size place (Err w) = refl

pub asks : (size : ℕ) (place : Option Place) (rest : List ℕ) → (end_of_asking size place rest).asks ≡ true
asks size place rest = asks_by size place (then_dump (arrived (led due.Dump fresh rest)))

-- ---- nothing was done

first_made : (made : List Place) (c : Files) → HasNone c → LeavesFirst made c
first_made [] c none = none
first_made (q ∷ made) c none = inl none

leaves_more : (place : Option Place) (made : List Place) (c : Files) → LeavesMade place [] c → LeavesMade place made c
unfolding LeavesPart
leaves_more None made c none = first_made made c none
leaves_more (Some p) made c is = leaves_here p made c is

-- ---- by the word of the reply, which is one or none

module _ (size : ℕ) (place : Option Place) (r : Reply) (rest : List ℕ) where
  abbrev makes : List Place
  makes = task_makes size place (Take (told_reply r))

  pub ends_some : (new : Option Place) (w : RoundWord) (o : Option RoundWord) → Some w ≡ o
      → new ≡ place_after place makes
      → EndsAs (Ok w) (end_by_word size place r rest o) place new
  ends_some new w o is made =
      subst (λ (o : Option RoundWord). EndsAs (Ok w) (end_by_word size place r rest o) place new) is
      (record { word_is = refl; place_is = made; part = tt })

  pub crash_word : {D : Type 0} (g : Ghosts D) (old new : D) (o : Option RoundWord)
      → word_of (judged size place (told_reply r)) ≡ o
      → IsCrashSafe g old new (LeavesMade place makes)
      → IsCrashSafe g old new (LeavesMade place (end_by_word size place r rest o).made)
  crash_word g old new (Some w) is safe = safe
  crash_word g old new None is safe = record {
    told = λ tells. weaken (safe.told tells) (λ c here. leaves_more place (end_of_asking size place rest).made c
        (subst (λ (made : List Place). LeavesMade place made c)
        (made_none size place (told_reply r) (is_resync (judged size place (told_reply r)) is)) here));
  }

  here : (new : Option Place) (made : List Place) → new ≡ place → MayBePart place made new
  here new made is = subst (MayBePart place made) (sym is) (part_before place made)

  pub ends_err : (new : Option Place) (halt : RoundHalt) (o : Option RoundWord)
      → word_of (judged size place (told_reply r)) ≡ o
      → MayBePart place makes new → EndsAs (Err halt) (end_by_word size place r rest o) place new
  ends_err new halt (Some w) is part = record { word_is = tt; place_is = tt; part = part }
  ends_err new halt None is part = record {
    word_is = tt;
    place_is = tt;
    part = here new (end_of_asking size place rest).made
        (subst (λ (made : List Place). MayBePart place made new)
        (made_none size place (told_reply r) (is_resync (judged size place (told_reply r)) is)) part);
  }

  pub said_some : (told : Option Wire) (w : RoundWord) (o : Option RoundWord) → Some w ≡ o
      → sent_in told ≡ sent_in (after_asking (end_by_word size place r rest o).asks told)
  said_some told w o is = subst (λ (o : Option RoundWord).
      sent_in told ≡ sent_in (after_asking (end_by_word size place r rest o).asks told)) is refl

  -- a dump is asked for, of a replica that is as before
  module _ (o : Option RoundWord) (none : None ≡ o) (n : ℕ) (sized : n ≡ size) (at : Option Place)
      (same : at ≡ place) where
    pub ends_none : (result : Result RoundWord RoundHalt) (new : Option Place)
        → EndsAs result (end_of_asking n at rest) at new
        → EndsAs result (end_by_word size place r rest o) place new
    ends_none result new ends =
        subst (λ (o : Option RoundWord). EndsAs result (end_by_word size place r rest o) place new) none
        (subst (λ (p : Option Place). EndsAs result (end_of_asking size p rest) p new) same
        (subst (λ (m : ℕ). EndsAs result (end_of_asking m at rest) at new) sized ends))

    pub crash_none : {D : Type 0} (g : Ghosts D) (old mid new : D) → mid ≡ old
        → IsCrashSafe g mid new (LeavesMade at (end_of_asking n at rest).made)
        → IsCrashSafe g old new (LeavesMade place (end_by_word size place r rest o).made)
    crash_none g old mid new untouched safe =
        subst (λ (o : Option RoundWord).
        IsCrashSafe g old new (LeavesMade place (end_by_word size place r rest o).made)) none
        (subst (λ (p : Option Place). IsCrashSafe g old new (LeavesMade p (end_of_asking size p rest).made)) same
        (subst (λ (m : ℕ). IsCrashSafe g old new (LeavesMade at (end_of_asking m at rest).made)) sized
        (subst (λ d. IsCrashSafe g d new (LeavesMade at (end_of_asking n at rest).made)) untouched safe)))

    asks_none : true ≡ (end_by_word size place r rest o).asks
    asks_none = subst (λ (o : Option RoundWord). true ≡ (end_by_word size place r rest o).asks) none
        (sym (asks size place rest))

    pub said_none : {A E : Type 0} (result : Result A E) (old new : Option Wire)
        → OnOk result (sent_in new ≡ sent_in (after_sent old (message_text Ask)))
        → OnOk result (sent_in new ≡ sent_in (after_asking (end_by_word size place r rest o).asks old))
    said_none result old new said = on_ok result (λ is. is ∙ ap (λ b. sent_in (after_asking b old)) asks_none) said

    pub part_none : {A E : Type 0} (result : Result A E) (old new : Option Wire)
        → OnErr result ((sent_in new ≡ sent_in old) ⊎ (sent_in new ≡ sent_in (after_sent old (message_text Ask))))
        → OnErr result (MayAsk (end_by_word size place r rest o).asks old new)
    part_none result old new said = on_err result (λ may. subst (λ b. MayAsk b old new) asks_none may) said

-- what some reply or dump makes
pub some_none : {D : Type 0} (g : Ghosts D) (old mid new : D) (size n : ℕ) (place at : Option Place) → mid ≡ old
    → n ≡ size → at ≡ place
    → IsCrashSafe g mid new (LeavesSome n at) → IsCrashSafe g old new (LeavesSome size place)
some_none g old mid new size n place at untouched sized same safe =
    subst (λ (p : Option Place). IsCrashSafe g old new (LeavesSome size p)) same
    (subst (λ (m : ℕ). IsCrashSafe g old new (LeavesSome m at)) sized
    (subst (λ d. IsCrashSafe g d new (LeavesSome n at)) untouched safe))

-- ---- what came

pub fresh_by : (a : Arrival) (s : State) (r : Reply) → ((m : Message) → a ≡ arrival.Came m → s ≡ fresh)
    → then_reply (heard a) ≡ Ok r → s ≡ fresh
fresh_by (arrival.Came m) s r by is = by m refl
fresh_by arrival.Cut s r by is = absurd cc
fresh_by arrival.Bad s r by is = absurd cc

pub rest_is : (a : Arrival) (given : List ℕ) (after : Option (List ℕ)) (r : Reply) → then_reply (heard a) ≡ Ok r
    → ArrivesOf due.Reply a fresh given after
    → after ≡ Some (drop (taken fresh given) given)
rest_is (arrival.Came m) given after r is came = came.1
rest_is arrival.Cut given after r is came = absurd cc
rest_is arrival.Bad given after r is came = absurd cc

-- the end of the round is the one of the reply that came, or its bytes are none
pub end_is : (size : ℕ) (place : Option Place) (a : Arrival) (given : List ℕ) (after : Option (List ℕ))
    (x : Result Reply RoundWord)
    → then_reply (heard a) ≡ x → ArrivesOf due.Reply a fresh given after
    → end_by_reply size place (drop (taken fresh given) given) x ≡ round_end size place given
end_is size place a given after x is came =
    ap (end_by_reply size place (drop (taken fresh given) given))
    (sym is ∙ ap then_reply (heard_is due.Reply a given after came))

-- ---- a whole round

ok_of : {A E P : Type 0} (r : Result A E) → P → OnOk r P
ok_of (Ok x) p = p
ok_of (Err e) p = tt

abbrev rest_of : Wire → List ℕ
rest_of w = drop (taken fresh (first_of w.to_come)) (first_of w.to_come)

module _ (name : List ℕ) (size : ℕ) (place : Option Place) (w : Wire) (mid : Option Wire) where
  -- the reply that came was taken
  module _ (a : Arrival) (left : Option (List ℕ)) (came : ArrivesOf due.Reply a fresh (first_of w.to_come) left)
      (sent : sent_in mid ≡ Some (greeting name (Poll (point_in place)) ∷ w.sent))
      (later : later_in mid ≡ Some (behind_first w.to_come)) where
    pub replied : (result : Result RoundWord RoundHalt) (new : Option Place) (after : Option Wire) (r : Reply)
        → then_reply (heard a) ≡ Ok r
        → ((rest : List ℕ) → left ≡ Some rest → EndsAs result (end_of_reply size place rest r) place new)
        → ((rest : List ℕ) → left ≡ Some rest
        → OnOk result (sent_in after ≡ sent_in (after_asking (end_of_reply size place rest r).asks mid)))
        → ((rest : List ℕ) → left ≡ Some rest → OnErr result (MayAsk (end_of_reply size place rest r).asks mid after))
        → later_in after ≡ later_in mid
        → IsRound result name size w place new after
    replied result new after r is ends said part same =
        subst (λ (e : RoundEnd). IsRoundOf result name e w place new after)
        (end_is size place a (first_of w.to_come) left (Ok r) is came) (record {
          ends = ends (rest_of w) (rest_is a (first_of w.to_come) left r is came);
          said = on_ok result (λ s. s ∙ sent_asking (end_of_reply size place (rest_of w) r).asks mid
              (greeting name (Poll (point_in place))) w.sent sent)
              (said (rest_of w) (rest_is a (first_of w.to_come) left r is came));
          front = on_err result (λ m. may_say (end_of_reply size place (rest_of w) r).asks mid after
              (greeting name (Poll (point_in place))) w.sent sent m)
              (part (rest_of w) (rest_is a (first_of w.to_come) left r is came));
          later = ok_of result (same ∙ later);
        })

    pub crash_replied : {D : Type 0} (g : Ghosts D) (old new : D) (r : Reply) → then_reply (heard a) ≡ Ok r
        → ((rest : List ℕ) → left ≡ Some rest
        → IsCrashSafe g old new (LeavesMade place (end_of_reply size place rest r).made))
        → IsCrashSafe g old new (LeavesMade place (round_end size place (first_of w.to_come)).made)
    crash_replied g old new r is safe =
        subst (λ (e : RoundEnd). IsCrashSafe g old new (LeavesMade place e.made))
        (end_is size place a (first_of w.to_come) left (Ok r) is came)
        (safe (rest_of w) (rest_is a (first_of w.to_come) left r is came))

    -- none came
    pub unreplied : (word : RoundWord) → then_reply (heard a) ≡ Err word → IsRound (Ok word) name size w place place mid
    unreplied word is =
        subst (λ (e : RoundEnd). IsRoundOf (Ok word) name e w place place mid)
        (end_is size place a (first_of w.to_come) left (Err word) is came) (record {
          ends = record { word_is = refl; place_is = refl; part = tt };
          said = sent_asking false mid (greeting name (Poll (point_in place))) w.sent sent;
          front = tt;
          later = later;
        })

  -- it was stopped before
  pub unheard : (halt : RoundHalt) → MaySay (greeting name (Poll (point_in place))) w.sent (sent_in mid)
      → IsRound (Err halt) name size w place place mid
  unheard halt may = record {
    ends = record {
      word_is = tt;
      place_is = tt;
      part = part_before place (round_end size place (first_of w.to_come)).made;
    };
    said = tt;
    front = say_more (greeting name (Poll (point_in place))) (asking (round_end size place (first_of w.to_come)).asks)
        w.sent (sent_in mid) may;
    later = tt;
  }

  pub unstarted : (halt : RoundHalt) → mid ≡ Some w → IsRound (Err halt) name size w place place mid
  unstarted halt told = unheard halt (inl (ap sent_in told))
