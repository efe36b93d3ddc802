-- What a run that makes new keys comes to, by what its parts tell.
use Rattle.std.proofs.Common.{◌≡◌, ◌⊎◌, ℕ, Bool, inl, inr, List, [], length, take, refl, ap, sym, subst, ◌∙◌}
use Rattle.std.proofs.lemmas.Option.{same_Some}
use Rattle.std.specs.Prelude.{Option, Some, None, Result, Ok, Err, IfOk, IfSome, OnErr, OnOk, option_map}
use Rattle.kadm_commands.specs.declared.replies.Reply.{Reply}
use Rattle.kadm_keytabs.proofs.Carried.{crash_still}
use Rattle.kadm_keytabs.proofs.Wholes.{bad_kept, keytab_kept}
use Rattle.kadm_keytabs.specs.Answers.{refusal_answer}
use Rattle.kadm_keytabs.specs.Inputs.{IsBadInput, IsKept, IsKeytabInput, most_kept}
use Rattle.kadm_keytabs.specs.Renewals.{EndsRenewed, IsAsked, IsOpenAt, LeavesOfCommand}
use Rattle.kadm_keytabs.specs.Renewals.{Renewal, RenewalLeaves, RenewalStops, Renews, Wanted}
use Rattle.kadm_keytabs.specs.Renewals.{answer_of, ask_for, no_renewal, places_for, renewal_of}
use Rattle.kadm_keytabs.specs.Renewing.{AreItsPlaces, AreRunPlaces, IsCommandSafe, IsMade, IsRenewed, IsRunSafe}
use Rattle.kadm_keytabs.specs.declared.answers.Answer.{Answer}
use Rattle.kdb_base.specs.Moment.{Moment}
use Rattle.kdb_base.specs.declared.outcomes.Refusal.TheVariants.{BadKeytab}
use Rattle.kdb_disk.proofs.Runs.{at_end, started, weaken}
use Rattle.kdb_disk.specs.Files.{Files}
use Rattle.kdb_disk.specs.Frames.{IsCrashSafe}
use Rattle.kdb_disk.specs.Moments.{LeavesOnly}
use Rattle.kdb_disk.specs.View.{View}
use Rattle.kdb_disk.specs.declared.disk.Disk.{Ghosts}
use Rattle.kdb_histories.specs.Asks.{Answer as Outcome, Ask, Replied}
use Rattle.kdb_histories.specs.Calls.{Performs}
use Rattle.kdb_histories.specs.Seen.{Seen, after_ask, made_at, seen}
use Rattle.kdb_histories.specs.Stages.{Stage, places}
use Rattle.kdb_model.specs.Laws.{IsMoment}
use Rattle.kdb_places.specs.Places.{Place}
use Rattle.kdb_plain.specs.declared.states.State.{State}
use Rattle.kdb_ports.specs.Parts.{SaidPart}
use Rattle.kdb_ports.specs.Told.{after_told, later_bytes, later_moments}
use Rattle.primary_core.specs.Opened.{HasState, IsDecided, Opened, place_of}
use Rattle.primary_core.specs.declared.decided.DecidedChange.{DecidedChange}
use Rattle.session_base.specs.Draws.{Draws, block_in, bytes_of, moment_in, told_draws}
use Rattle.session_base.specs.Stages.{IsStopped}
use Rattle.stash_file.specs.Pieces.{Told}
use Rattle.store_files.specs.Found.{recovers}
use Rattle.store_files.specs.Recovery.{LeavesPart, RecoversTo}

-- ---- what a crash leaves, whatever is told

-- nothing was done
command_still : {D : Type 0} (g : Ghosts D) (old new : D) (w : Wanted) (at : Seen) → new ≡ old
    → (g.tells → RecoversTo at.place (g.view old)) → IsCrashSafe g old new (LeavesOfCommand w at)
command_still {D} g old new w at same recovered = record {
  told = λ tells.
      subst (λ (x : D). LeavesOnly (g.view old) (g.view x) (LeavesOfCommand w at)) (sym same)
      (started (g.view old) (LeavesOfCommand w at) (λ c image. inl (recovered tells c image)));
}

-- the command was done, with this moment and this block
pub command_done : {D : Type 0} (g : Ghosts D) (old new : D) (w : Wanted) (now : Moment) (random : List ℕ) (at : Seen)
    → IsMoment now → length random ≡ 2048 → (g.tells → RecoversTo at.place (g.view old))
    → IsCrashSafe g old new (LeavesPart at.place (places (made_at (ask_for w now random) at)))
    → (new ≡ old) ⊎ IsAsked (ask_for w now random) at
    → IsCrashSafe g old new (LeavesOfCommand w at)
command_done g old new w now random at moment block recovered safe (inl same) =
    command_still g old new w at same recovered
command_done g old new w now random at moment block recovered safe (inr asked) = record {
  told = λ tells. weaken (safe.told tells) (λ c part.
      inr (record {
        clock = now;
        clock_is = moment;
        random = random;
        random_is = block;
        asked = asked;
        leaves = part;
      }));
}

-- ---- the command, with what is drawn for it

-- it was made with what was drawn
pub made_drawn : {E : Type 0} (result : Result Answer E) (w : Wanted) (moments moments' : Option (ℕ → Moment))
    (stream stream' : Option (ℕ → ℕ))
    (now : Moment) (random : List ℕ) (at : Seen) (entries : List Told) (o : Opened) (draws : Draws)
    → IfSome moments (λ f. now ≡ f 0) → moments' ≡ option_map later_moments moments
    → IfSome stream (λ f. random ≡ bytes_of 2048 f) → stream' ≡ option_map (later_bytes 2048) stream
    → IfOk result (λ answer. answer ≡ answer_of w now random at entries)
    → OnOk result (IsOpenAt o (after_ask (ask_for w now random) at))
    → told_draws moments stream ≡ Some draws
    → IfOk result (λ answer. IsMade (renewal_of w draws at entries) answer o (told_draws moments' stream'))
made_drawn (Err e) w moments moments' stream stream' now random at entries o draws first others bytes rest is
    stands told = tt
made_drawn (Ok answer) w None moments' stream stream' now random at entries o draws first others bytes rest is stands
    told = absurd cc
made_drawn (Ok answer) w (Some m) moments' None stream' now random at entries o draws first others bytes rest is stands
    told = absurd cc
made_drawn (Ok answer) w (Some m) moments' (Some b) stream' now random at entries o draws first others bytes rest
    is stands told =
    subst (λ (d : Draws). IsMade (renewal_of w d at entries) answer o (told_draws moments' stream'))
    (same_Some (record { moments = m; stream = b }) draws told)
    (record {
      answer_is = is ∙ (λ i. answer_of w (first i) (bytes i) at entries);
      stands = subst (λ (x : Seen). IsOpenAt o x) (λ i. after_ask (ask_for w (first i) (bytes i)) at) stands;
      draws_are = λ i. told_draws (others i) (rest i);
    })

pub safe_done : {D : Type 0} (g : Ghosts D) (old new : D) (w : Wanted) (moments : Option (ℕ → Moment))
    (stream : Option (ℕ → ℕ)) (now : Moment) (random : List ℕ) (at : Seen)
    → IfSome moments (λ f. now ≡ f 0) → IfSome stream (λ f. random ≡ bytes_of 2048 f)
    → IsCrashSafe g old new (LeavesPart at.place (places (made_at (ask_for w now random) at)))
    → IsCrashSafe g old new (LeavesOfCommand w at)
    → IsCommandSafe g old new w (told_draws moments stream) at
safe_done g old new w moments stream now random at first bytes safe some = record {
  made = places (made_at (ask_for w now random) at);
  are = by moments stream first bytes;
  safe = safe;
  some = some;
}
  where
    by : (m : Option (ℕ → Moment)) (b : Option (ℕ → ℕ)) → IfSome m (λ f. now ≡ f 0)
        → IfSome b (λ f. random ≡ bytes_of 2048 f)
        → AreItsPlaces w (told_draws m b) at (places (made_at (ask_for w now random) at))
    by None b f g' = tt
    by (Some moments) None f g' = tt
    by (Some moments) (Some bytes) f g' = λ i. places (made_at (ask_for w (f i) (g' i)) at)

places_told : Wanted → Option Draws → Seen → List Place
places_told w None at = []
places_told w (Some draws) at = places_for w draws at

places_so : (w : Wanted) (told : Option Draws) (at : Seen) → AreItsPlaces w told at (places_told w told at)
unfolding places_told
places_so w None at = tt
places_so w (Some draws) at = refl

pub safe_still : {D : Type 0} (g : Ghosts D) (old new : D) (w : Wanted) (told : Option Draws) (at : Seen) → new ≡ old
    → (g.tells → RecoversTo at.place (g.view old)) → IsCommandSafe g old new w told at
safe_still g old new w told at same recovered = record {
  made = places_told w told at;
  are = places_so w told at;
  safe = crash_still g old new at.place (places_told w told at) same recovered;
  some = command_still g old new w at same recovered;
}

-- ---- what the primary is asked, as an event of its history

pub asked_so : (o : Opened) (ask : Ask) (reply : Reply) (change : Option DecidedChange) (s : State)
    → IsDecided o ask reply change → HasState o s → IsAsked ask (seen (place_of o) s)
asked_so o ask reply change s is has =
    let h = is.performs s has in
    subst (λ (a : Outcome). Performs (place_of o) s ask a (made_at ask (seen (place_of o) s))) h.answers
    (subst (λ (made : List Stage). Performs (place_of o) s ask (Replied reply) made) h.is h)

pub asked_drawn : (P : Type 0) (w : Wanted) (moments : Option (ℕ → Moment)) (stream : Option (ℕ → ℕ)) (now : Moment)
    (random : List ℕ) (at : Seen) (draws : Draws)
    → IfSome moments (λ f. now ≡ f 0) → IfSome stream (λ f. random ≡ bytes_of 2048 f)
    → told_draws moments stream ≡ Some draws
    → P ⊎ IsAsked (ask_for w now random) at → P ⊎ IsAsked (ask_for w (moment_in draws) (block_in draws)) at
asked_drawn P w None stream now random at draws first bytes told done = absurd cc
asked_drawn P w (Some m) None now random at draws first bytes told done = absurd cc
asked_drawn P w (Some m) (Some b) now random at draws first bytes told (inl same) = inl same
asked_drawn P w (Some m) (Some b) now random at draws first bytes told (inr done) =
    inr (subst (λ (d : Draws). IsAsked (ask_for w (moment_in d) (block_in d)) at)
    (same_Some (record { moments = m; stream = b }) draws told)
    (subst (λ (n : Moment). IsAsked (ask_for w n (bytes_of 2048 b)) at) first
    (subst (λ (x : List ℕ). IsAsked (ask_for w now x) at) bytes done)))

-- ---- a run over a keytab

pub renewed_keytab : {E : Type 0} (result : Result Answer E) (w : Wanted) (draws : Draws) (at : Seen) (kept : List ℕ)
    (entries : List Told) (o : Opened) (left : Option Draws)
    → IsKeytabInput kept entries → IfOk result (λ answer. IsMade (renewal_of w draws at entries) answer o left)
    → IfOk result (λ answer. IsRenewed (Renews w draws at kept) answer o left)
renewed_keytab (Ok answer) w draws at kept entries o left keytab made = record {
  renewal = renewal_of w draws at entries;
  is = inl (record { entries = entries; keytab = keytab; is = refl });
  made = made;
}
renewed_keytab (Err e) w draws at kept entries o left keytab made = tt

-- ---- one over no keytab

pub renewed_none : {E : Type 0} (result : Result Answer E) (w : Wanted) (draws : Draws) (s : State) (kept : List ℕ)
    (place told : ℕ) (o : Opened) (left : Option Draws)
    → IsBadInput kept place → place ≡ told → IfOk result (λ answer. answer ≡ refusal_answer (BadKeytab told))
    → HasState o s → left ≡ Some draws
    → IfOk result (λ answer. IsRenewed (Renews w draws (seen (place_of o) s) kept) answer o left)
renewed_none (Ok answer) w draws s kept place told o left bad same is has drawn = record {
  renewal = no_renewal (BadKeytab told) draws (seen (place_of o) s);
  is = inr (record { place = told; bad = subst (IsBadInput kept) same bad; is = refl });
  made = record { answer_is = is; stands = record { place_is = refl; shows = has }; draws_are = drawn };
}
renewed_none (Err e) w draws s kept place told o left bad same is has drawn = tt

-- ---- what a crash leaves

pub run_safe : {D : Type 0} (g : Ghosts D) (old new : D) (w : Wanted) (told : Option Draws) (at : Seen) (kept : List ℕ)
    (entries : List Told)
    → IsKeytabInput kept entries → IsCommandSafe g old new w told at → IsRunSafe g old new w told at kept
run_safe g old new w told at kept entries keytab safe =
    record { made = safe.made; are = by told safe.are; safe = safe.safe; some = safe.some }
  where
    by : (t : Option Draws) → AreItsPlaces w t at safe.made → AreRunPlaces w t at kept safe.made
    by None are = tt
    by (Some draws) are =
        inr (record {
          renewal = renewal_of w draws at entries;
          is = inl (record { entries = entries; keytab = keytab; is = refl });
          made_are = are;
        })

pub run_still : {D : Type 0} (g : Ghosts D) (old new : D) (w : Wanted) (told : Option Draws) (at : Seen) (kept : List ℕ)
    → new ≡ old → (g.tells → RecoversTo at.place (g.view old)) → IsRunSafe g old new w told at kept
run_still g old new w told at kept same recovered = record {
  made = [];
  are = by told;
  safe = crash_still g old new at.place [] same recovered;
  some = command_still g old new w at same recovered;
}
  where
    by : (t : Option Draws) → AreRunPlaces w t at kept []
    by None = tt
    by (Some draws) = inl refl

-- ---- by the whole input

renews_whole : (w : Wanted) (draws : Draws) (at : Seen) (text kept bytes : List ℕ) (r : Renewal)
    → kept ≡ take most_kept text → bytes ≡ kept
    → Renews w draws at bytes r → Renews w draws at text r
renews_whole w draws at text kept bytes r all same is =
    by (subst (λ (b : List ℕ). Renews w draws at b r) (same ∙ all) is)
  where
    by : Renews w draws at (take most_kept text) r → Renews w draws at text r
    by (inl k) = inl (record { entries = k.entries; keytab = keytab_kept text k.entries k.keytab; is = k.is })
    by (inr n) = inr (record { place = n.place; bad = bad_kept text n.place n.bad; is = n.is })

pub ends_so : {E : Type 0} (result : Result Bool E) (w : Wanted) (draws : Draws) (at : Seen) (told : Option (List ℕ))
    (text kept bytes : List ℕ) (answer : Answer)
    (o : Opened) (left : Option Draws) (old new : Option (List ℕ))
    → told ≡ Some text → IsKept told kept → bytes ≡ kept → IsRenewed (Renews w draws at bytes) answer o left
    → IfOk result (λ refused. refused ≡ answer.refused) → OnOk result (new ≡ after_told old answer.text)
    → IfOk result (λ refused. EndsRenewed (Renews w draws at text) refused old new o left)
ends_so (Ok refused) w draws at told text kept bytes answer o left old new is front same r said taken =
    let all : kept ≡ take most_kept text = subst (λ (t : Option (List ℕ)). IsKept t kept) is front in
    record {
      renewal = r.renewal;
      is = renews_whole w draws at text kept bytes r.renewal all same r.is;
      refused_is = said ∙ ap (λ (a : Answer). a.refused) r.made.answer_is;
      taken_is = taken ∙ ap (λ (a : Answer). after_told old a.text) r.made.answer_is;
      stands = r.made.stands;
      draws_are = r.made.draws_are;
    }
ends_so (Err e) w draws at told text kept bytes answer o left old new is front same r said taken = tt

-- ---- where it stops early

-- before anything was done
pub stops_still : (w : Wanted) (taken text : Option (List ℕ)) (told : Option Draws) (at : Seen) (now : View)
    → RecoversTo at.place now → IsStopped (RenewalStops w taken text told at) taken now
unfolding RenewalStops LeavesPart
stops_still w taken text told at now recovered = record {
  first = at.place;
  others = [];
  may = by text told;
  stands = record { each = λ c image. recovered c image };
}
  where
    by : (x : Option (List ℕ)) (t : Option Draws) → RenewalStops w taken x t at taken at.place []
    by None t = tt
    by (Some x) None = tt
    by (Some x) (Some draws) = inl (refl, refl, refl)

-- before the first byte was written
pub stops_safe : {D : Type 0} (g : Ghosts D) (old new : D) (w : Wanted) (taken text : Option (List ℕ))
    (told : Option Draws) (at : Seen) (kept bytes : List ℕ)
    → IsKept text kept → bytes ≡ kept → IsRunSafe g old new w told at bytes → g.tells
    → IsStopped (RenewalStops w taken text told at) taken (g.view new)
unfolding RenewalStops
stops_safe g old new w taken text told at kept bytes front same safe tells = record {
  first = at.place;
  others = safe.made;
  may = by text told front safe.are;
  stands = record { each = λ c image. at_end (safe.safe.told tells) c image };
}
  where
    by : (x : Option (List ℕ)) (t : Option Draws) → IsKept x kept → AreRunPlaces w t at bytes safe.made
        → RenewalStops w taken x t at taken at.place safe.made
    by None t f may = tt
    by (Some x) None f may = tt
    by (Some x) (Some draws) f (inl none) = inl (refl, refl, none)
    by (Some x) (Some draws) f (inr m) =
        inr (record {
          renewal = m.renewal;
          is = renews_whole w draws at x kept bytes m.renewal f same m.is;
          stops = inl (refl, refl, m.made_are);
        })

-- a part was written
stops_written : (w : Wanted) (taken out text : Option (List ℕ)) (told : Option Draws) (at : Seen) (kept bytes : List ℕ)
    (answer : Answer) (o : Opened) (left : Option Draws)
    (now : View) → IsKept text kept → bytes ≡ kept
    → ((draws : Draws) → told ≡ Some draws → IsRenewed (Renews w draws at bytes) answer o left)
    → SaidPart answer.text taken out → RecoversTo (place_of o) now
    → IsStopped (RenewalStops w taken text told at) out now
unfolding RenewalStops LeavesPart
stops_written w taken out text told at kept bytes answer o left now front same renewed part recovered = record {
  first = place_of o;
  others = [];
  may = by text told front renewed;
  stands = record { each = λ c image. recovered c image };
}
  where
    by : (x : Option (List ℕ)) (t : Option Draws) → IsKept x kept
        → ((draws : Draws) → t ≡ Some draws → IsRenewed (Renews w draws at bytes) answer o left)
        → RenewalStops w taken x t at out (place_of o) []
    by None t f r = tt
    by (Some x) None f r = tt
    by (Some x) (Some draws) f r =
        let was = r draws refl in
        inr (record {
          renewal = was.renewal;
          is = renews_whole w draws at x kept bytes was.renewal f same was.is;
          stops = inr (
            subst (λ (a : Answer). SaidPart a.text taken out) was.made.answer_is part,
            was.made.stands.place_is,
            refl,
          );
        })

pub stops_written_so : {E : Type 0} (result : Result Bool E) (w : Wanted) (taken out text : Option (List ℕ))
    (told : Option Draws) (at : Seen) (kept bytes : List ℕ)
    (answer : Answer) (o : Opened) (left : Option Draws) (now : View)
    → IsKept text kept → bytes ≡ kept
    → ((draws : Draws) → told ≡ Some draws → IsRenewed (Renews w draws at bytes) answer o left)
    → OnErr result (SaidPart answer.text taken out) → RecoversTo (place_of o) now
    → OnErr result (IsStopped (RenewalStops w taken text told at) out now)
stops_written_so (Ok refused) w taken out text told at kept bytes answer o left now front same renewed part recovered =
    tt
stops_written_so (Err e) w taken out text told at kept bytes answer o left now front same renewed part recovered =
    stops_written w taken out text told at kept bytes answer o left now front same renewed part recovered

-- ---- what a crash may leave at any moment

pub leaves_still : (w : Wanted) (text : Option (List ℕ)) (told : Option Draws) (at : Seen) (now : View)
    → RecoversTo at.place now → LeavesOnly now now (RenewalLeaves w text told at)
unfolding RenewalLeaves
leaves_still w text told at now recovered =
    started now (RenewalLeaves w text told at) (λ c image. by text told c (recovered c image))
  where
    by : (x : Option (List ℕ)) (t : Option Draws) (c : Files) → recovers c ≡ Ok at.place → RenewalLeaves w x t at c
    by None t c is = inl is
    by (Some x) None c is = inl is
    by (Some x) (Some draws) c is = inl is

pub leaves_safe : {D : Type 0} (g : Ghosts D) (old new : D) (w : Wanted) (text : Option (List ℕ)) (told : Option Draws)
    (at : Seen) (kept bytes : List ℕ)
    → IsKept text kept → bytes ≡ kept → IsRunSafe g old new w told at bytes → g.tells
    → LeavesOnly (g.view old) (g.view new) (RenewalLeaves w text told at)
unfolding RenewalLeaves LeavesPart
leaves_safe g old new w text told at kept bytes front same safe tells = by text told front safe.are
  where
    one : (x : List ℕ) (draws : Draws) (c : Files) → IsKept (Some x) kept
        → AreRunPlaces w (Some draws) at bytes safe.made → LeavesPart at.place safe.made c
        → RenewalLeaves w (Some x) (Some draws) at c
    one x draws c f (inl none) part = inl (subst (λ (made : List Place). LeavesPart at.place made c) none part)
    one x draws c f (inr m) part =
        inr (record {
          renewal = m.renewal;
          is = renews_whole w draws at x kept bytes m.renewal f same m.is;
          leaves = subst (λ (made : List Place). LeavesPart at.place made c) m.made_are part;
        })

    by : (x : Option (List ℕ)) (t : Option Draws) → IsKept x kept → AreRunPlaces w t at bytes safe.made
        → LeavesOnly (g.view old) (g.view new) (RenewalLeaves w x t at)
    by None t f may = weaken (safe.some.told tells) (λ c leaves. leaves)
    by (Some x) None f may = weaken (safe.some.told tells) (λ c leaves. leaves)
    by (Some x) (Some draws) f may = weaken (safe.safe.told tells) (λ c part. one x draws c f may part)
