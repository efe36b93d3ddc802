-- A blob that is the encryption of a text and the text's tag, whatever both are.
use Rattle.std.proofs.Common.{◌≡◌, ℕ, ◌-◌, ◌∙◌, ap, sym, List, ◌++◌, length, take, drop, length-append, arith}
use Rattle.std.proofs.lemmas.List.{take_at, drop_at, take-append-drop}

module _ (enciphered tagged : List ℕ → List ℕ) (n : ℕ) (each : (text : List ℕ) → length (tagged text) ≡ n) where
  front_len : (text blob : List ℕ) → blob ≡ enciphered text ++ tagged text → length (enciphered text) ≡ length blob - n
  front_len text blob is =
      let whole = ap length is in
      omega (arith, length-append (enciphered text) (tagged text), each text, whole)

  -- what it begins with
  pub begins : (text blob : List ℕ) → blob ≡ enciphered text ++ tagged text
      → enciphered text ≡ take (length blob - n) blob
  begins text blob is =
      sym (take_at (enciphered text) (tagged text) (length blob - n) (front_len text blob is))
      ∙ ap (take (length blob - n)) (sym is)

  -- what it ends with
  pub ends : (text blob : List ℕ) → blob ≡ enciphered text ++ tagged text → tagged text ≡ drop (length blob - n) blob
  ends text blob is =
      sym (drop_at (enciphered text) (tagged text) (length blob - n) (front_len text blob is))
      ∙ ap (drop (length blob - n)) (sym is)

  -- what begins and ends so is the blob
  pub joined_is : (text blob : List ℕ) → enciphered text ≡ take (length blob - n) blob
      → tagged text ≡ drop (length blob - n) blob →
      blob ≡ enciphered text ++ tagged text
  joined_is text blob front end = rw (front, end) (sym (take-append-drop (length blob - n) blob))
