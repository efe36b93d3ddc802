-- By induction over the commands: a session stops before the first, in what it makes or inside its reply, or in the
-- others.
use Rattle.std.proofs.Common.{◌≡◌, ◌∙◌, ℕ, suc, List, [], ◌∷◌, ◌++◌, take, drop, refl}
use Rattle.std.proofs.Common.{ap, sym, append-nil, append_assoc, arith, inl, inr}
use Rattle.std.specs.Prelude.{Option, Some}
use Rattle.std.proofs.lemmas.List.{take-append-drop}
use Rattle.kdb_histories.specs.Seen.{Seen}
use Rattle.kdb_places.specs.Places.{Place}
use Rattle.kdb_ports.specs.Parts.{SaidPart}
use Rattle.kadm_session.specs.Courses.{HasStoppedAfter, MayStop}
use Rattle.session_base.specs.Draws.{Draws}
use Rattle.kadm_session.specs.Events.{ArePerformed, IsPerformed}
use Rattle.kadm_session.specs.Steps.{draws_after, places_by, places_made, said, seen_after, text_to}
use Rattle.kadm_session.specs.declared.intake.Asked.{Asked}
use Rattle.kadm_session.proofs.laws.stops_are_fronts.Goals as goal

after_all : (taken : List ℕ) (draws : Draws) (at : Seen) (out : Option (List ℕ)) (first : Place) (others : List Place)
    → out ≡ Some taken → first ≡ at.place → others ≡ [] → HasStoppedAfter taken [] draws at out first others
unfolding said places_made ArePerformed
after_all taken draws at out first others is first_is none = record {
  answered = 0;
  done = 0;
  order = omega arith;
  next = omega arith;
  within = omega arith;
  written = [];
  unwritten = [];
  out_is = is ∙ ap Some (sym (append-nil taken));
  replies = refl;
  performed = tt;
  first_is = first_is;
  others_are = sym none;
}

in_change : (taken : List ℕ) (asked : Asked) (commands : List Asked) (draws : Draws) (at : Seen) (out : Option (List ℕ))
    (first : Place) (others : List Place)
    → out ≡ Some taken → first ≡ at.place → others ≡ places_by asked draws at
    → HasStoppedAfter taken (asked ∷ commands) draws at out first others
unfolding said places_made ArePerformed
in_change taken asked commands draws at out first others is first_is made = record {
  answered = 0;
  done = 1;
  order = omega arith;
  next = omega arith;
  within = omega arith;
  written = [];
  unwritten = [];
  out_is = is ∙ ap Some (sym (append-nil taken));
  replies = refl;
  performed = tt;
  first_is = first_is;
  others_are = append-nil (places_by asked draws at) ∙ sym made;
}

in_reply : (taken : List ℕ) (asked : Asked) (commands : List Asked) (draws : Draws) (at : Seen) (out : Option (List ℕ))
    (first : Place) (others : List Place)
    → IsPerformed asked draws at → SaidPart (text_to asked draws at) (Some taken) out
    → first ≡ (seen_after asked draws at).place → others ≡ []
    → HasStoppedAfter taken (asked ∷ commands) draws at out first others
unfolding said places_made ArePerformed
in_reply taken asked commands draws at out first others performed part first_is none =
    let text = text_to asked draws at in
    let made = places_by asked draws at ++ [] in
    record {
      answered = 1;
      done = 1;
      order = omega arith;
      next = omega arith;
      within = omega arith;
      written = take part.count text;
      unwritten = drop part.count text;
      out_is = part.part;
      replies = append-nil text ∙ sym (take-append-drop part.count text);
      performed = (performed, tt);
      first_is = first_is;
      others_are = sym (append-nil made) ∙ ap (λ (places : List Place). made ++ places) (sym none);
    }

in_others : (taken : List ℕ) (asked : Asked) (commands : List Asked) (draws : Draws) (at : Seen) (out : Option (List ℕ))
    (first : Place) (others : List Place)
    → IsPerformed asked draws at → HasStoppedAfter (taken ++ text_to asked draws at) commands
    (draws_after asked draws at) (seen_after asked draws at) out first others
    → HasStoppedAfter taken (asked ∷ commands) draws at out first others
unfolding said places_made ArePerformed
in_others taken asked commands draws at out first others performed rest =
    let text = text_to asked draws at in
    let made = places_by asked draws at in
    let before = places_made (take rest.answered commands) (draws_after asked draws at) (seen_after asked draws at) in
    record {
      answered = suc rest.answered;
      done = suc rest.done;
      order = omega (arith, rest.order);
      next = omega (arith, rest.next);
      within = omega (arith, rest.within);
      written = text ++ rest.written;
      unwritten = rest.unwritten;
      out_is = rest.out_is ∙ ap Some (append_assoc taken text rest.written);
      replies =
          ap (λ (bytes : List ℕ). text ++ bytes) rest.replies ∙ sym (append_assoc text rest.written rest.unwritten);
      performed = (performed, rest.performed);
      first_is = rest.first_is;
      others_are = ap (λ (places : List Place). made ++ places) rest.others_are ∙ sym (append_assoc made before others);
    }

stopped_after : (taken : List ℕ) (commands : List Asked) (draws : Draws) (at : Seen) (out : Option (List ℕ))
    (first : Place) (others : List Place)
    → MayStop (Some taken) commands draws at out first others → HasStoppedAfter taken commands draws at out first others
unfolding MayStop
stopped_after taken [] draws at out first others h = after_all taken draws at out first others h.0 h.1 h.2
stopped_after taken (asked ∷ commands) draws at out first others (inl (inl h)) =
    in_change taken asked commands draws at out first others h.0 h.1 h.2
stopped_after taken (asked ∷ commands) draws at out first others (inl (inr h)) =
    in_reply taken asked commands draws at out first others h.0 h.1 h.2 h.3
stopped_after taken (asked ∷ commands) draws at out first others (inr h) =
    in_others taken asked commands draws at out first others h.0
    (stopped_after (taken ++ text_to asked draws at) commands (draws_after asked draws at)
    (seen_after asked draws at) out first others h.1)

pub returns : goal.returns
returns c = stopped_after
