-- How many bytes a name is printed with.
use Rattle.std.proofs.Common.{◌≡◌, ◌≢◌, ℕ, true, ◌+◌, ◌<◌, ◌≤◌, List, [], ◌∷◌, length, map}
use Rattle.std.proofs.Common.{drop, get_or, refl, sym, ap, ◌∙◌, length-append, arith}
use Rattle.std.proofs.lemmas.List.{drop_more, drop_all, length-map}
use Rattle.std.specs.List.{list_all}
use Rattle.princ_name.specs.Bytes.{printed_byte, can_stand}
use Rattle.princ_name.specs.Names.{IsName, printed, printed_parts, printed_text}
use Rattle.princ_name.specs.Whole.{name_of, parts_cost}
use Rattle.princ_name.specs.declared.parts.Part.{Part}

text-cons : (b : ℕ) (text : List ℕ)
    → length (printed_text (b ∷ text)) ≡ length (printed_byte b) + length (printed_text text)
unfolding printed_text
text-cons b text = length-append (printed_byte b) (printed_text text)

pub text-drop : (text : List ℕ) (i : ℕ) → i < length text
    → length (printed_text (drop i text))
    ≡ length (printed_byte (get_or text i 0)) + length (printed_text (drop (i + 1) text))
text-drop text i lt =
    ap (λ t. length (printed_text t)) (drop_more text i 0 lt) ∙ text-cons (get_or text i 0) (drop (i + 1) text)

pub text-end : length (printed_text []) ≡ 0
unfolding printed_text
text-end = refl

pub cost-drop : (parts : List Part) (i : ℕ) (d : Part) → i < length parts
    → parts_cost (drop i parts) ≡ length (printed_text (get_or parts i d).text) + 1 + parts_cost (drop (i + 1) parts)
unfolding parts_cost
cost-drop parts i d lt = ap parts_cost (drop_more parts i d lt)

pub cost-end : parts_cost [] ≡ 0
unfolding parts_cost
cost-end = refl

parts-cost : (p : Part) (ps : List Part) → parts_cost (p ∷ ps) ≡ length (printed_parts (map (λ q. q.text) (p ∷ ps))) + 1
unfolding parts_cost printed_parts
parts-cost p [] = omega arith
parts-cost p (q ∷ ps) = omega
    (arith, parts-cost q ps, length-append (printed_text p.text) (47 ∷ printed_parts (map (λ r. r.text) (q ∷ ps))))

printed-cost : (p : Part) (ps : List Part) (realm : Part)
    → length (printed (name_of (p ∷ ps) realm)) ≡ parts_cost (p ∷ ps) + length (printed_text realm.text)
unfolding printed
printed-cost p ps realm = omega
    (arith, parts-cost p ps, length-append (printed_parts (map (λ r. r.text) (p ∷ ps))) (64 ∷ printed_text realm.text))

pub name-cost : (ps : List Part) (realm : Part) → ps ≢ []
    → length (printed (name_of ps realm)) ≡ parts_cost ps + length (printed_text realm.text)
name-cost [] realm some = absurd (some refl)
name-cost (p ∷ ps) realm some = printed-cost p ps realm

pub text-behind : (text : List ℕ) (i : ℕ) → length text ≤ i → length (printed_text (drop i text)) ≡ 0
text-behind text i le = ap (λ t. length (printed_text t)) (drop_all i text le) ∙ text-end

pub cost-behind : (parts : List Part) (i : ℕ) → length parts ≤ i → parts_cost (drop i parts) ≡ 0
cost-behind parts i le = ap parts_cost (drop_all i parts le) ∙ cost-end

pub cost-item : (parts : List Part) (i : ℕ) (item : Part) (text : List ℕ) → i < length parts
    → item ≡ get_or parts i item → text ≡ item.text
    → parts_cost (drop i parts) ≡ length (printed_text text) + 1 + parts_cost (drop (i + 1) parts)
cost-item parts i item text lt is same =
    cost-drop parts i item lt
    ∙ ap (λ (t : List ℕ). length (printed_text t) + 1 + parts_cost (drop (i + 1) parts))
    (sym (same ∙ ap (λ (p : Part). p.text) is))

map-some : (parts : List Part) → parts ≢ [] → map (λ p. p.text) parts ≢ []
map-some [] some = absurd (some refl)
map-some (p ∷ ps) some = λ none. cc

-- the limits of names, from what is measured
pub is_name : (parts : List Part) (realm : Part) (room left : ℕ) → parts ≢ []
    → list_all (list_all can_stand) (map (λ p. p.text) parts) ≡ true
    → length parts ≤ 16 → realm.text ≢ [] → list_all can_stand realm.text ≡ true
    → room + parts_cost parts ≡ 255 → left + length (printed_text realm.text) ≡ room → IsName (name_of parts realm)
is_name parts realm room left some bytes few real realm_bytes behind rest = record {
  some = map-some parts some;
  few = omega (arith, length-map parts (λ (p : Part). p.text));
  bytes = bytes;
  realm = real;
  realm_bytes = realm_bytes;
  short = omega (arith, name-cost parts realm some);
}
