-- A point names one place's contents and one state.
use Rattle.std.proofs.Common.{◌≡◌, ◌⊎◌, inl, inr, List, [], ◌∷◌, refl, sym, ◌∙◌, ap, subst, arith}
use Rattle.std.proofs.lemmas.List.Elements.{All-contains}
use Rattle.std.specs.Prelude.{Contains}
use Rattle.std.specs.List.{All}
use Rattle.iprop_truths.proofs.Members.{contains_cases, contains_first, contains_more}
use Rattle.iprop_truths.specs.Truths.{IsOnePerPoint}
use Rattle.kdb_base.specs.Moments.{ComesBefore}
use Rattle.kdb_base.specs.declared.moments.Point.{Point}
use Rattle.kdb_histories.proofs.Times.{never_before}
use Rattle.kdb_histories.specs.Histories.{IsLater, IsOneSeen, IsRising, all_seen}
use Rattle.kdb_histories.specs.Seen.{Seen, seen}
use Rattle.kdb_histories.specs.Stages.{Stage, fold, places}
use Rattle.kdb_places.specs.Places.{Place, Contents, contents_of, point_of}

-- they have the same contents and the same state
abbrev AreSame : Seen → Seen → Type 0
AreSame a b = (contents_of a.place ≡ contents_of b.place) × (a.state ≡ b.state)

later_same : (a b : Seen) → IsLater a b → point_of a.place ≡ point_of b.place → AreSame b a
later_same a b (inl before) same =
    absurd (never_before (point_of b.place) (subst (λ (x : Point). ComesBefore x (point_of b.place)) same before))
later_same a b (inr is) same = is

turned : (a b : Seen) → AreSame a b → AreSame b a
turned a b same = (sym same.0, sym same.1)

two_by : (c : Seen) (older : List Seen) (a b : Seen) → All (λ o. IsLater o c) older
    → point_of a.place ≡ point_of b.place
    → (Contains older a → Contains older b → AreSame a b) → (c ≡ a) ⊎ Contains older a
    → (c ≡ b) ⊎ Contains older b → AreSame a b
two_by c older a b later same others (inl x) (inl y) = subst (AreSame a) (sym x ∙ y) (refl, refl)
two_by c older a b later same others (inl x) (inr y) =
    let here = later_same b c (All-contains (λ o. IsLater o c) older b later y)
    (sym same ∙ ap (λ (z : Seen). point_of z.place) (sym x)) in
    subst (λ (z : Seen). AreSame z b) x here
two_by c older a b later same others (inr x) (inl y) =
    let here = later_same a c (All-contains (λ o. IsLater o c) older a later x)
    (same ∙ ap (λ (z : Seen). point_of z.place) (sym y)) in
    turned b a (subst (λ (z : Seen). AreSame z a) y here)
two_by c older a b later same others (inr x) (inr y) = others x y

pub one_seen : (all : List Seen) → IsRising all → IsOneSeen all
one_seen [] rising a b here there same = absurd (omega (arith, here.1))
one_seen (c ∷ older) rising a b here there same =
    two_by c older a b rising.0 same (λ x y. one_seen older rising.1 a b x y same) (contains_cases c older a here)
    (contains_cases c older b there)

-- the place, with the state up to it
pub record SeenAt (stages : List Stage) (p : Place) : Type 0 where
  pub at : Seen
  pub there : Contains (all_seen stages) at
  pub is : at.place ≡ p

seen_by : (t : Stage) (older : List Stage) (p : Place) → (t.place ≡ p) ⊎ Contains (places older) p
    → (Contains (places older) p → SeenAt older p)
    → SeenAt (t ∷ older) p
seen_by t older p (inl is) others =
    let at = seen t.place (fold (t ∷ older)) in
    record { at = at; there = contains_first at (all_seen older); is = is }
seen_by t older p (inr there) others =
    let rest = others there in
    record {
      at = rest.at;
      there = contains_more (seen t.place (fold (t ∷ older))) (all_seen older) rest.at rest.there;
      is = rest.is;
    }

pub seen_at : (stages : List Stage) (p : Place) → Contains (places stages) p → SeenAt stages p
seen_at [] p there = absurd (omega (arith, there.1))
seen_at (t ∷ older) p there =
    seen_by t older p (contains_cases t.place (places older) p there) (λ rest. seen_at older p rest)

pub names_one : (stages : List Stage) → IsRising (all_seen stages) → IsOnePerPoint (places stages)
names_one stages rising c d has other same =
    let a = seen_at stages has.place has.there in
    let b = seen_at stages other.place other.there in
    let first : c ≡ contents_of a.at.place = has.is ∙ sym (ap contents_of a.is) in
    let second : d ≡ contents_of b.at.place = other.is ∙ sym (ap contents_of b.is) in
    let at : point_of a.at.place ≡ point_of b.at.place =
    sym (ap (λ (x : Contents). x.point) first) ∙ same ∙ ap (λ (x : Contents). x.point) second in
    first ∙ (one_seen (all_seen stages) rising a.at b.at a.there b.there at).0 ∙ sym second
