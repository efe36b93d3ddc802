-- What is sent in a round.
use Rattle.std.proofs.Common.{◌≡◌, ℕ, Bool, true, false, inl, inr, List, [], ◌∷◌, ◌++◌, Option}
use Rattle.std.proofs.Common.{Some, None, Ok, Err, refl, sym, ap, ◌∙◌, append-nil, append_assoc}
use Rattle.std.specs.Prelude.{Result, OnErr, OnOk}
use Rattle.iprop_links.specs.Asking.{MaySay, SaidFront, sent_in}
use Rattle.iprop_wire.specs.Messages.{message_text}
use Rattle.iprop_wire.specs.declared.messages.Message.TheVariants.{Ask}
use Rattle.kdb_ports.specs.Links.{Wire, onto_first}
use Rattle.kprop_rounds.specs.Rounds.{MayAsk, after_asking, asking}

abbrev texts_or : List (List ℕ) → Option (List (List ℕ)) → List (List ℕ)
texts_or other None = other
texts_or other (Some texts) = texts

pub sent_asking : (asks : Bool) (told : Option Wire) (g : List ℕ) (older : List (List ℕ))
    → sent_in told ≡ Some (g ∷ older)
    → sent_in (after_asking asks told) ≡ Some ((g ++ asking asks) ∷ older)
sent_asking false told g older is = is ∙ ap (λ (t : List ℕ). Some (t ∷ older)) (sym (append-nil g))
sent_asking true None g older is = absurd cc
sent_asking true (Some w) g older is = ap (λ o. Some (onto_first (message_text Ask) (texts_or [] o))) is

-- ---- of a result

pub on_ok : {A E P Q : Type 0} (r : Result A E) → (P → Q) → OnOk r P → OnOk r Q
on_ok (Ok x) f p = f p
on_ok (Err e) f p = tt

pub on_err : {A E P Q : Type 0} (r : Result A E) → (P → Q) → OnErr r P → OnErr r Q
on_err (Ok x) f p = tt
on_err (Err e) f p = f p

-- ---- fronts

said_all : (text : List ℕ) (before : List (List ℕ)) (now : Option (List (List ℕ))) → now ≡ Some (text ∷ before)
    → SaidFront text before now
said_all text before now is =
    record { front = text; is_front = record { rest = []; parts = sym (append-nil text) }; is = is }

said_first : (g more : List ℕ) (before : List (List ℕ)) (now : Option (List (List ℕ))) → now ≡ Some (g ∷ before)
    → SaidFront (g ++ more) before now
said_first g more before now is = record { front = g; is_front = record { rest = more; parts = refl }; is = is }

-- nothing of an asking, or all of it, behind a greeting
pub may_say : (asks : Bool) (old new : Option Wire) (g : List ℕ) (before : List (List ℕ))
    → sent_in old ≡ Some (g ∷ before)
    → MayAsk asks old new → MaySay (g ++ asking asks) before (sent_in new)
may_say asks old new g before was (inl is) = inr (said_first g (asking asks) before (sent_in new) (is ∙ was))
may_say asks old new g before was (inr is) =
    inr (said_all (g ++ asking asks) before (sent_in new) (is ∙ sent_asking asks old g before was))

-- what was said of a greeting was said of what begins with it
pub say_more : (g more : List ℕ) (before : List (List ℕ)) (now : Option (List (List ℕ))) → MaySay g before now
    → MaySay (g ++ more) before now
say_more g more before now (inl is) = inl is
say_more g more before now (inr said) = inr (longer said)
  where
    longer : SaidFront g before now → SaidFront (g ++ more) before now
    longer s = record {
      front = s.front;
      is_front = record {
        rest = s.is_front.rest ++ more;
        parts = ap (λ (t : List ℕ). t ++ more) s.is_front.parts ∙ append_assoc s.front s.is_front.rest more;
      };
      is = s.is;
    }
