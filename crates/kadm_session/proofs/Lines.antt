-- A line that rekeys many, as it is told.
use Rattle.std.proofs.Common.{◌≡◌, ◌∙◌, ℕ, suc, List, [], ◌∷◌, refl, ap, sym, subst, inr, arith}
use Rattle.std.specs.Prelude.{Option, Some, None, Result, Ok, Err, IfOk, IfSome, option_map}
use Rattle.std.specs.List.{Contains}
use Rattle.iprop_truths.specs.Parts.{end_of}
use Rattle.kadm_commands.specs.declared.replies.Reply.{Reply}
use Rattle.kdb_base.specs.Moment.{Moment}
use Rattle.kdb_disk.proofs.Runs.{weaken}
use Rattle.kdb_disk.specs.Frames.{IsCrashSafe}
use Rattle.kdb_disk.specs.declared.disk.Disk.{Ghosts}
use Rattle.kdb_histories.specs.Seen.{Seen, seen}
use Rattle.kdb_model.specs.Laws.{IsMoment}
use Rattle.kdb_places.specs.Places.{Place}
use Rattle.kdb_plain.specs.Lists.{princ_names}
use Rattle.kdb_plain.specs.declared.states.State.{State}
use Rattle.kdb_ports.specs.Told.{later_moments}
use Rattle.primary_answers.specs.Listing.{names_told}
use Rattle.primary_core.specs.Opened.{Opened, place_of}
use Rattle.store_files.specs.Recovery.{RecoversTo}
use Rattle.kadm_session.specs.Deciding.{AreMade, Answers, Decides, IsHalfway, IsLineSafe, MayRest}
use Rattle.session_base.specs.Draws.{Draws, told_draws}
use Rattle.kadm_session.specs.Events.{AreRekeyings, IsPerformed, LineReaches, RecoversWhere, RekeyingsReach}
use Rattle.kadm_session.specs.Rekeying.{begun, rekeyed, rekeyed_reply}
use Rattle.kadm_session.specs.RekeyedNames.{AreRekeyed, IsRekeyed, IsRekeyedPart, IsRekeyedSafe}
use Rattle.kadm_session.specs.Steps.{draws_after, places_by, reply_to, seen_after}
use Rattle.kadm_session.specs.declared.intake.Asked.{Asked}
use Rattle.kadm_session.specs.declared.intake.Asked.TheVariants.{Rekeys}
use Rattle.kadm_session.proofs.Moving.{rekeyed_ends}

-- the place is before the line
pub before_rests : (asked : Asked) (told : Option Draws) (at : Seen) → MayRest asked told at at.place
before_rests asked None at = tt
before_rests asked (Some draws) at = (0, omega arith, refl)

-- nothing was done
pub halfway_still : {D : Type 0} (g : Ghosts D) (old new : D) (asked : Asked) (told : Option Draws) (at : Seen)
    → new ≡ old → (g.tells → RecoversTo at.place (g.view old)) → IsHalfway g new asked told at
halfway_still {D} g old new asked told at same recovered = record {
  place = at.place;
  may = before_rests asked told at;
  stands = λ tells. subst (λ (d : D). RecoversTo at.place (g.view d)) (sym same) (recovered tells);
}

pub halfway_as : {D : Type 0} (g : Ghosts D) (new : D) (asked does : Asked) (told : Option Draws) (at : Seen)
    → asked ≡ does → IsHalfway g new does told at → IsHalfway g new asked told at
halfway_as g new asked does told at is half = subst (λ (a : Asked). IsHalfway g new a told at) (sym is) half

-- ---- many

performed_told : (glob : Option (List ℕ)) (words : List (List ℕ)) (moments : Option (ℕ → Moment))
    (stream : Option (ℕ → ℕ)) (now : Moment) (o : Opened) (s : State)
    → words ≡ names_told glob (princ_names s.princs) → IsMoment now → IfSome moments (λ f. now ≡ f 0)
    → IfSome stream (λ bytes. AreRekeyings words now (begun (seen (place_of o) s) bytes))
    → IfSome (told_draws moments stream) (λ draws. IsPerformed (Rekeys glob) draws (seen (place_of o) s))
performed_told glob words None stream now o s names moment first are = tt
performed_told glob words (Some moments) None now o s names moment first are = tt
performed_told glob words (Some moments) (Some bytes) now o s names moment first are =
    let p = begun (seen (place_of o) s) bytes in (
      subst IsMoment first moment,
      subst (λ (w : List (List ℕ)). AreRekeyings w (moments 0) p) names
          (subst (λ (m : Moment). AreRekeyings words m p) first are),
    )

-- they were rekeyed at the moment that came next
pub decides_rekeyed : (glob : Option (List ℕ)) (words : List (List ℕ)) (moments moments' : Option (ℕ → Moment))
    (stream left : Option (ℕ → ℕ)) (now : Moment) (o new : Opened) (s : State) (answer : Reply)
    → IsMoment now → words ≡ names_told glob (princ_names s.princs) → IfSome moments (λ f. now ≡ f 0)
    → moments' ≡ option_map later_moments moments
    → IsRekeyed words now stream (seen (place_of o) s) answer new left
    → Decides (Rekeys glob) (told_draws moments stream) (seen (place_of o) s) (Some answer) new
    (told_draws moments' left)
unfolding reply_to seen_after draws_after
decides_rekeyed glob words moments moments' stream left now o new s answer moment names first others done = record {
  later = done.later;
  stands = done.stands;
  answers = by moments stream first others done.are;
  performed = performed_told glob words moments stream now o s names moment first done.performed;
}
  where
    by : (m : Option (ℕ → Moment)) (b : Option (ℕ → ℕ)) → IfSome m (λ f. now ≡ f 0)
        → moments' ≡ option_map later_moments m
        → AreRekeyed words now b (seen (place_of o) s) answer done.later left
        → Answers (Rekeys glob) (told_draws m b) (seen (place_of o) s) (Some answer) done.later
        (told_draws moments' left)
    by None b f o' are = ap (λ (m : Option (ℕ → Moment)). told_draws m left) o'
    by (Some moments) None f o' are = λ i. told_draws (o' i) (are i)
    by (Some moments) (Some bytes) f o' are = (
      ap (λ (r : Reply). Some r) are.0
          ∙ (λ i. Some (rekeyed_reply (rekeyed (names i) (f i) (begun (seen (place_of o) s) bytes)))),
      are.1 ∙ (λ i. (rekeyed (names i) (f i) (begun (seen (place_of o) s) bytes)).at),
      λ i. told_draws (o' i)
          ((are.2 ∙ (λ j. Some (rekeyed (names j) (f j) (begun (seen (place_of o) s) bytes)).stream)) i),
    )

pub decides_matched : {E : Type 0} (result : Result Reply E) (glob : Option (List ℕ)) (words : List (List ℕ))
    (moments moments' : Option (ℕ → Moment)) (stream left : Option (ℕ → ℕ)) (now : Moment) (o new : Opened) (s : State)
    → IsMoment now → words ≡ names_told glob (princ_names s.princs) → IfSome moments (λ f. now ≡ f 0)
    → moments' ≡ option_map later_moments moments
    → IfOk result (λ answer. IsRekeyed words now stream (seen (place_of o) s) answer new left)
    → IfOk result (λ answer. Decides (Rekeys glob) (told_draws moments stream) (seen (place_of o) s) (Some answer) new
    (told_draws moments' left))
decides_matched (Ok answer) glob words moments moments' stream left now o new s moment names first others done =
    decides_rekeyed glob words moments moments' stream left now o new s answer moment names first others done
decides_matched (Err halt) glob words moments moments' stream left now o new s moment names first others done = tt

reaches_told : {D : Type 0} (g : Ghosts D) (old new : D) (glob : Option (List ℕ)) (words : List (List ℕ))
    (moments : Option (ℕ → Moment)) (stream : Option (ℕ → ℕ)) (now : Moment) (o : Opened) (s : State)
    → words ≡ names_told glob (princ_names s.princs) → IsMoment now → IfSome moments (λ f. now ≡ f 0)
    → IfSome stream (λ bytes.
    IsCrashSafe g old new (RecoversWhere (RekeyingsReach words now (begun (seen (place_of o) s) bytes))))
    → IfSome (told_draws moments stream)
    (λ draws. IsCrashSafe g old new (RecoversWhere (LineReaches (Rekeys glob) draws (seen (place_of o) s))))
reaches_told g old new glob words None stream now o s names moment first safe = tt
reaches_told g old new glob words (Some moments) None now o s names moment first safe = tt
reaches_told g old new glob words (Some moments) (Some bytes) now o s names moment first safe =
    let p = begun (seen (place_of o) s) bytes in
    record {
      told = λ tells. weaken (safe.told tells) (λ c found. record {
        place = found.place;
        is = found.is;
        reached = inr (
          subst IsMoment first moment,
          subst (λ (w : List (List ℕ)). RekeyingsReach w (moments 0) p found.place) names
              (subst (λ (m : Moment). RekeyingsReach words m p found.place) first found.reached),
        );
      });
    }

pub line_rekeyed : {D : Type 0} (g : Ghosts D) (old new : D) (glob : Option (List ℕ)) (words : List (List ℕ))
    (moments : Option (ℕ → Moment)) (stream : Option (ℕ → ℕ)) (now : Moment) (o : Opened) (s : State)
    → IsMoment now → words ≡ names_told glob (princ_names s.princs) → IfSome moments (λ f. now ≡ f 0)
    → IsRekeyedSafe g old new words now stream (seen (place_of o) s)
    → IsLineSafe g old new (Rekeys glob) (told_draws moments stream) (seen (place_of o) s)
unfolding places_by
line_rekeyed g old new glob words moments stream now o s moment names first safe = record {
  made = safe.made;
  are = by moments stream first safe.are;
  safe = safe.safe;
  reaches = reaches_told g old new glob words moments stream now o s names moment first safe.reaches;
}
  where
    by : (m : Option (ℕ → Moment)) (b : Option (ℕ → ℕ)) → IfSome m (λ f. now ≡ f 0)
        → IfSome b (λ bytes. safe.made ≡ (rekeyed words now (begun (seen (place_of o) s) bytes)).made)
        → AreMade (Rekeys glob) (told_draws m b) (seen (place_of o) s) safe.made
    by None b f are = tt
    by (Some moments) None f are = tt
    by (Some moments) (Some bytes) f are =
        are ∙ (λ i. (rekeyed (names i) (f i) (begun (seen (place_of o) s) bytes)).made)

pub halfway_rekeyed : {D : Type 0} (g : Ghosts D) (new : D) (glob : Option (List ℕ)) (words : List (List ℕ))
    (moments : Option (ℕ → Moment)) (stream : Option (ℕ → ℕ)) (now : Moment) (o : Opened) (s : State)
    → words ≡ names_told glob (princ_names s.princs) → IfSome moments (λ f. now ≡ f 0)
    → IsRekeyedPart g new words now stream (seen (place_of o) s)
    → IsHalfway g new (Rekeys glob) (told_draws moments stream) (seen (place_of o) s)
unfolding places_by
halfway_rekeyed g new glob words moments stream now o s names first part = record {
  place = part.place;
  may = by moments stream first part.among;
  stands = part.stands;
}
  where
    by : (m : Option (ℕ → Moment)) (b : Option (ℕ → ℕ)) → IfSome m (λ f. now ≡ f 0)
        → IfSome b (λ bytes.
        Contains (place_of o ∷ (rekeyed words now (begun (seen (place_of o) s) bytes)).made) part.place)
        → MayRest (Rekeys glob) (told_draws m b) (seen (place_of o) s) part.place
    by None b f are = tt
    by (Some moments) None f are = tt
    by (Some moments) (Some bytes) f are =
        subst (λ (ps : List Place). Contains (place_of o ∷ ps) part.place)
        (λ i. (rekeyed (names i) (f i) (begun (seen (place_of o) s) bytes)).made) are

-- they end at the last of their places
pub line_ends : (glob : Option (List ℕ)) (draws : Draws) (at : Seen)
    → (seen_after (Rekeys glob) draws at).place ≡ end_of at.place (places_by (Rekeys glob) draws at)
unfolding seen_after places_by
line_ends glob draws at =
    rekeyed_ends (names_told glob (princ_names at.state.princs)) (draws.moments 0) at.place (begun at draws.stream) refl

last_among : (p : Place) (made : List Place) → Contains (p ∷ made) (end_of p made)
last_among p [] = (0, omega arith, refl)
last_among p (q ∷ made) = let later = last_among q made in (suc later.0, omega (arith, later.1), later.2)

-- all were rekeyed, and the reply was not printed
pub halfway_done : {D : Type 0} (g : Ghosts D) (new : D) (glob : Option (List ℕ)) (told left : Option Draws) (at : Seen)
    (reply : Option Reply) (o : Opened)
    → Decides (Rekeys glob) told at reply o left → (g.tells → RecoversTo (place_of o) (g.view new))
    → IsHalfway g new (Rekeys glob) told at
halfway_done g new glob told left at reply o done recovered = record {
  place = place_of o;
  may = by told done.answers;
  stands = recovered;
}
  where
    by : (t : Option Draws) → Answers (Rekeys glob) t at reply done.later left → MayRest (Rekeys glob) t at (place_of o)
    by None answers = tt
    by (Some draws) answers =
        subst (λ (p : Place). Contains (at.place ∷ places_by (Rekeys glob) draws at) p)
        (sym (done.stands.place_is ∙ ap (λ (x : Seen). x.place) answers.1 ∙ line_ends glob draws at))
        (last_among at.place (places_by (Rekeys glob) draws at))
