-- What is sent and written by a run that is stopped is a front of what all of it sends and writes.
use Rattle.std.proofs.Common.{◌≡◌, ◌+◌, ◌-◌, ℕ, zero, suc, List, [], ◌∷◌, ◌++◌, take, drop, Option, Some, inl}
use Rattle.std.proofs.Common.{inr, refl, sym, ap, subst, ◌∙◌, append_assoc, append-nil, take-append-drop, arith}
use Rattle.iprop_links.specs.Asking.{MaySay}
use Rattle.kadm_replies.specs.Refusals.{refusal_text}
use Rattle.kadm_replies.specs.Texts.{done_text}
use Rattle.kdb_ports.proofs.Told.{after_told-append, after_told-nil}
use Rattle.kdb_ports.specs.Links.{Wire}
use Rattle.kdb_ports.specs.Parts.{SaidPart}
use Rattle.kdb_ports.specs.Told.{after_told}
use Rattle.kprop_rounds.specs.Rounds.{round_text}
use Rattle.kprop_runs.specs.Fronts.{AreFronts, all_sent}
use Rattle.kprop_runs.specs.Openings.{Opening, Opens, Refuses}
use Rattle.kprop_runs.specs.Runs.{RunStops, StopsRounds, end_behind, first_stage, last_stage, run_end}
use Rattle.kprop_runs.specs.Stages.{Stage, StopsBehind, StopsIn, StopsRound, after_round, after_rounds, end_at, line_at}
use Rattle.kprop_runs.specs.declared.words.Asked.{Asked}
use Rattle.replica_steps.specs.Judging.{point_in}

-- ---- texts

-- of a text a part was written, and the rest comes
said_rest : (text : List ℕ) (taken out : Option (List ℕ)) → (part : SaidPart text taken out)
    → after_told taken text ≡ after_told out (drop part.count text)
said_rest text taken out part =
    ap (after_told taken) (sym (take-append-drop part.count text))
    ∙ sym (after_told-append taken (take part.count text) (drop part.count text))
    ∙ ap (λ (t : Option (List ℕ)). after_told t (drop part.count text)) (sym part.part)

then_told : (taken out : Option (List ℕ)) (xs ys : List ℕ) → out ≡ after_told taken xs
    → after_told out ys ≡ after_told taken (xs ++ ys)
then_told taken out xs ys is = ap (λ (t : Option (List ℕ)). after_told t ys) is ∙ after_told-append taken xs ys

-- ---- stages

-- the one has sent and written all that the other has, and this behind it
record Extends (t u : Stage) : Type 0 where
  sent : List ℕ
  sent_is : all_sent u.sent ≡ all_sent t.sent ++ sent
  told : List ℕ
  told_is : u.out ≡ after_told t.out told

extends_same : (t : Stage) → Extends t t
extends_same t =
    record { sent = []; sent_is = sym (append-nil (all_sent t.sent)); told = []; told_is = sym (after_told-nil t.out) }

extends_then : (t u v : Stage) → Extends t u → Extends u v → Extends t v
extends_then t u v one two = record {
  sent = one.sent ++ two.sent;
  sent_is =
      two.sent_is ∙ ap (λ (xs : List ℕ). xs ++ two.sent) one.sent_is ∙ append_assoc (all_sent t.sent) one.sent two.sent;
  told = one.told ++ two.told;
  told_is = two.told_is ∙ then_told t.out u.out one.told two.told one.told_is;
}

extends_round : (name : List ℕ) (size number : ℕ) (t : Stage) → Extends t (after_round name size number t)
unfolding all_sent
extends_round name size number t = record {
  sent = round_text name t.place (end_at size t);
  sent_is = refl;
  told = line_at number (end_at size t) t;
  told_is = refl;
}

extends_rounds : (name : List ℕ) (size : ℕ) (s : Stage) (k n m : ℕ) → m ≡ k + n
    → Extends (after_rounds name size n s) (after_rounds name size m s)
unfolding after_rounds
extends_rounds name size s zero n m is =
    let same : n ≡ m = omega (arith, is) in
    subst (λ (i : ℕ). Extends (after_rounds name size n s) (after_rounds name size i s)) same
    (extends_same (after_rounds name size n s))
extends_rounds name size s (suc k) n m is =
    let next : suc (k + n) ≡ m = omega (arith, is) in
    subst (λ (i : ℕ). Extends (after_rounds name size n s) (after_rounds name size i s)) next
    (extends_then (after_rounds name size n s) (after_rounds name size (k + n) s)
    (after_round name size (suc (k + n)) (after_rounds name size (k + n) s))
    (extends_rounds name size s k n (k + n) refl)
    (extends_round name size (suc (k + n)) (after_rounds name size (k + n) s)))

-- ---- where it is stopped

module _ (last : Stage) where
  -- these texts and these bytes are fronts of the stage's
  fronts_at : (u : Stage) (texts : List (List ℕ)) (sent : Option (List (List ℕ))) (out : Option (List ℕ))
      (rest bytes : List ℕ) → Extends u last → sent ≡ Some texts
      → all_sent u.sent ≡ all_sent texts ++ rest → u.out ≡ after_told out bytes → AreFronts (end_behind last) sent out
  fronts_at u texts sent out rest bytes to sent_is all out_is = record {
    texts = texts;
    sent_is = sent_is;
    sent_front = record {
      rest = rest ++ to.sent;
      parts = to.sent_is ∙ ap (λ (xs : List ℕ). xs ++ to.sent) all ∙ append_assoc (all_sent texts) rest to.sent;
    };
    more = (bytes ++ to.told) ++ done_text (point_in last.place);
    out_front =
        ap (λ (o : Option (List ℕ)). after_told o (done_text (point_in last.place)))
        (to.told_is ∙ then_told out u.out bytes to.told out_is)
        ∙ after_told-append out (bytes ++ to.told) (done_text (point_in last.place));
  }

  module _ (name : List ℕ) (size number : ℕ) (t : Stage) (to : Extends (after_round name size number t) last) where
    -- before its line
    quiet_round : (sent : Option (List (List ℕ))) (out : Option (List ℕ))
        → MaySay (round_text name t.place (end_at size t)) t.sent sent → out ≡ t.out
        → AreFronts (end_behind last) sent out
    unfolding all_sent
    quiet_round sent out (inl same) quiet =
        fronts_at t t.sent sent out [] []
        (extends_then t (after_round name size number t) last (extends_round name size number t) to) same
        (sym (append-nil (all_sent t.sent))) (sym quiet ∙ sym (after_told-nil out))
    quiet_round sent out (inr said) quiet = record {
      texts = said.front ∷ t.sent;
      sent_is = said.is;
      sent_front = record {
        rest = said.is_front.rest ++ to.sent;
        parts =
            to.sent_is ∙ ap (λ (xs : List ℕ). (all_sent t.sent ++ xs) ++ to.sent) said.is_front.parts
            ∙ ap (λ (xs : List ℕ). xs ++ to.sent) (sym (append_assoc (all_sent t.sent) said.front said.is_front.rest))
            ∙ append_assoc (all_sent t.sent ++ said.front) said.is_front.rest to.sent;
      };
      more = (line_at number (end_at size t) t ++ to.told) ++ done_text (point_in last.place);
      out_front =
          ap (λ (o : Option (List ℕ)). after_told o (done_text (point_in last.place)))
          (to.told_is ∙ then_told out (after_round name size number t).out (line_at number (end_at size t) t) to.told
          (ap (λ (o : Option (List ℕ)). after_told o (line_at number (end_at size t) t)) (sym quiet)))
          ∙ after_told-append out (line_at number (end_at size t) t ++ to.told) (done_text (point_in last.place));
    }

    stopped_round : (sent : Option (List (List ℕ))) (out : Option (List ℕ))
        → StopsRound name number (end_at size t) t sent out → AreFronts (end_behind last) sent out
    stopped_round sent out (inl is) = quiet_round sent out is.0 is.1
    stopped_round sent out (inr is) =
        fronts_at (after_round name size number t) (round_text name t.place (end_at size t) ∷ t.sent) sent out []
        (drop is.1.count (line_at number (end_at size t) t)) to is.0
        (sym (append-nil (all_sent (round_text name t.place (end_at size t) ∷ t.sent))))
        (said_rest (line_at number (end_at size t) t) t.out out is.1)

  stopped_behind : (sent : Option (List (List ℕ))) (out : Option (List ℕ)) → StopsBehind last sent out
      → AreFronts (end_behind last) sent out
  stopped_behind sent out is = record {
    texts = last.sent;
    sent_is = is.0;
    sent_front = record { rest = []; parts = sym (append-nil (all_sent last.sent)) };
    more = drop is.1.count (done_text (point_in last.place));
    out_front = said_rest (done_text (point_in last.place)) last.out out is.1;
  }

  not_begun : (s : Stage) (sent : Option (List (List ℕ))) (out : Option (List ℕ)) → Extends s last → sent ≡ Some s.sent
      → out ≡ s.out → AreFronts (end_behind last) sent out
  not_begun s sent out to same quiet = fronts_at s s.sent sent out [] [] to same (sym (append-nil (all_sent s.sent)))
      (sym quiet ∙ sym (after_told-nil out))

stopped_in : (name : List ℕ) (size count : ℕ) (s : Stage) (sent : Option (List (List ℕ))) (out : Option (List ℕ))
    → StopsIn name size count s sent out
    → AreFronts (end_behind (after_rounds name size count s)) sent out
unfolding after_rounds
stopped_in name size count s sent out stops =
    let few = stops.few in
    let left : count ≡ (count - suc stops.done) + suc stops.done = omega (arith, few) in
    stopped_round (after_rounds name size count s) name size (suc stops.done) (after_rounds name size stops.done s)
    (extends_rounds name size s (count - suc stops.done) (suc stops.done) count left) sent out stops.stops

stopped_rounds : (a : Asked) (s : Stage) (sent : Option (List (List ℕ))) (out : Option (List ℕ))
    → StopsRounds a s sent out → AreFronts (end_behind (last_stage a s)) sent out
stopped_rounds a s sent out (inl stops) = stopped_in a.name a.size a.rounds s sent out stops
stopped_rounds a s sent out (inr stops) = stopped_behind (last_stage a s) sent out stops

pub fronts : (o : Opening) (w : Wire) (taken : Option (List ℕ)) (sent : Option (List (List ℕ))) (out : Option (List ℕ))
    → RunStops o w taken sent out
    → AreFronts (run_end o w taken) sent out
unfolding after_rounds
fronts (Refuses why) w taken sent out (inl is) = record {
  texts = w.sent;
  sent_is = is.0;
  sent_front = record { rest = []; parts = sym (append-nil (all_sent w.sent)) };
  more = refusal_text why;
  out_front = ap (λ (o : Option (List ℕ)). after_told o (refusal_text why)) (sym is.1);
}
fronts (Refuses why) w taken sent out (inr is) = record {
  texts = w.sent;
  sent_is = is.0;
  sent_front = record { rest = []; parts = sym (append-nil (all_sent w.sent)) };
  more = drop is.1.count (refusal_text why);
  out_front = said_rest (refusal_text why) taken out is.1;
}
fronts (Opens a place) w taken sent out (inl is) =
    let s = first_stage w taken place in
    let to : Extends s (last_stage a s) = extends_rounds a.name a.size s a.rounds 0 a.rounds (omega arith) in
    not_begun (last_stage a s) s sent out to is.0 is.1
fronts (Opens a place) w taken sent out (inr stops) = stopped_rounds a (first_stage w taken place) sent out stops
