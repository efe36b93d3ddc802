-- A creation that returned, and one that stopped.
use Rattle.std.proofs.Common.{◌≡◌, ℕ, inl, inr, true, false, List, [], None, Ok, refl, sym, subst}
use Rattle.kdb_base.specs.Moment.{Moment}
use Rattle.kdb_disk.specs.Files.{Files}
use Rattle.kdb_disk.specs.View.{View}
use Rattle.kdb_histories.specs.Histories.{IsCreation}
use Rattle.kdb_histories.specs.Sites.{Creates, Site, begun}
use Rattle.kdb_histories.specs.Stages.{Stage, places}
use Rattle.primary_core.specs.Opened.{HasState, Opened, place_of}
use Rattle.primary_core.specs.Opening.{first_place}
use Rattle.first_rows.specs.Creation.{first_state}
use Rattle.first_rows.specs.Parts.{SpecParts}
use Rattle.primary_events.proofs.Coming.{comes_quiet, crash_comes, images_like, one_event}
use Rattle.primary_events.specs.At.{LastIn, LeadsTo}
use Rattle.primary_events.specs.Coming.{ComesTo, IsQuiet, StopsTo}
use Rattle.primary_events.specs.Premises.{MayCreate}
use Rattle.primary_worlds.proofs.Created.{created_stage}
use Rattle.primary_worlds.specs.Creations.{first_stage}
use Rattle.store_files.specs.Found.{recovers}
use Rattle.store_files.specs.Recovery.{Creates as MayMake, HasNone}

creation_of : (s : Site) (spec : SpecParts) (clock : Moment) (random : List ℕ) → MayCreate s spec clock random
    → IsCreation (places s.ended) (first_stage spec clock random)
creation_of s spec clock random h = created_stage spec clock random (places s.ended) h.is h.long h.bytes h.later

pub creation_returns : (o : Opened) (s : Site) (spec : SpecParts) (clock : Moment) (random : List ℕ)
    → MayCreate s spec clock random
    → place_of o ≡ first_place spec clock random → HasState o (first_state spec clock random)
    → (o.dumps ≡ 0) × (o.room ≡ 1) → o.kept.broken ≡ false
    → LeadsTo s (Creates (first_stage spec clock random) true) None o
creation_returns o s spec clock random h place has same whole =
    let t : Stage = first_stage spec clock random in
    record {
      new = begun t true s;
      happens = record {
        none = h.none;
        creation = creation_of s spec clock random h;
        newer = λ up. refl;
        is = refl;
        silent = refl;
      };
      at = record {
        at = record { last = t; others = []; is = refl };
        place = sym place;
        has = has;
        up = refl;
        whole = whole;
        dumps = sym same.0;
        room = sym same.1;
      };
    }

-- its place was made, and then it stopped
pub creation_stops : (s : Site) (spec : SpecParts) (clock : Moment) (random : List ℕ) (c : Files)
    → MayCreate s spec clock random
    → recovers c ≡ Ok (first_place spec clock random) → ComesTo s c
creation_stops s spec clock random c h is =
    let t : Stage = first_stage spec clock random in
    one_event IsQuiet s (begun t false s) (Creates t false) c refl
    (record {
      none = h.none;
      creation = creation_of s spec clock random h;
      newer = λ (up : false ≡ true). absurd cc;
      is = refl;
      silent = refl;
    }) refl is

-- or none is there yet
pub none_comes : (s : Site) (c : Files) → s.history ≡ [] → HasNone c → StopsTo s c
none_comes s c none is = crash_comes s c (subst (λ (h : List Stage). LastIn h c) (sym none) is)

pub images_made : (v : View) (s : Site) (spec : SpecParts) (clock : Moment) (random : List ℕ) (c : Files)
    → MayCreate s spec clock random
    → ((b : Files) → v.images b → ComesTo s b) → MayMake v (first_place spec clock random) c → ComesTo s c
images_made v s spec clock random c h each (inl like) = images_like IsQuiet v s c each like
images_made v s spec clock random c h each (inr (inl none)) = comes_quiet s c (none_comes s c h.none none)
images_made v s spec clock random c h each (inr (inr is)) = creation_stops s spec clock random c h is
