-- What an output gains: one byte, and bytes after bytes.
-- Assumes nothing.
use Rattle.std.proofs.Common.{◌≡◌, refl, sym, ap, ◌∙◌, ℕ, ◌+◌, ◌/◌, ◌%◌, ◌<◌, ◌≤◌, List, get_or, [], ◌∷◌, ◌++◌, length, take, None, Some}
use Rattle.std.proofs.lemmas.List.{append_assoc, append-nil, take_more, take_more_set}
use Rattle.std.proofs.Math.ListN.{set}
use Rattle.std.specs.declared.option.Option.{Option}
use Rattle.std.specs.Io.KnownBytes.{append_known, Appends}
use Rattle.io.specs.Digits.{hex_digit_ascii, last_digits, IsDigitCount}
use Rattle.console.specs.declared.Out.{Out}
use Rattle.console.specs.Output.{HasFailed, Stays, GoesOn, Put, NumberPut}
use Rattle.console.specs.Page.{spot_of, text_end, hex_of}
use Rattle.console.proofs.PageLaws.{full_spot, room_spot, byte_end, byte_on, none_end, none_on, both_end, both_on, hex_next}

appends_nothing : (a : Option (List ℕ)) → Appends a a []
appends_nothing None = tt
appends_nothing (Some xs) = sym (append-nil xs)

appends_both : (a b c : Option (List ℕ)) (x y : List ℕ) → Appends a b x → Appends b c y → Appends a c (x ++ y)
appends_both None b c x y first second = tt
appends_both (Some xs) None c x y first second = absurd first
appends_both (Some xs) (Some ys) None x y first second = absurd second
appends_both (Some xs) (Some ys) (Some zs) x y first second = second ∙ ap (λ l. l ++ y) first ∙ append_assoc xs x y

-- a byte where there is room
room_holds :
    (a : Option (List ℕ)) (page : List ℕ) (at byte : ℕ) → at < length page →
    Appends (append_known a (take at page)) (append_known a (take (at + 1) (set page at byte))) (byte ∷ [])
room_holds None page at byte room = tt
room_holds (Some xs) page at byte room = ap (λ l. xs ++ l) (take_more_set page at byte room) ∙ sym (append_assoc xs (take at page) (byte ∷ []))

-- o₂ has room for a byte: it is o₁, or o₁ when its full page was written out
pub record Room {W : Type 0} (contents : W → Option (List ℕ)) (o₁ o₂ : Out W) : Type 0 where
  pub spot : o₂.at ≡ spot_of o₁.at
  pub page : o₂.page ≡ o₁.page
  pub stays : Stays o₁ o₂
  pub goes_on : GoesOn contents o₁ o₂ []

module _ {W : Type 0} (contents : W → Option (List ℕ)) (o₁ o₂ : Out W) where
  pub room_same : o₁.at < 65536 → o₂ ≡ o₁ → Room contents o₁ o₂
  room_same room same = rw same record {
    spot = room_spot o₁.at room;
    page = refl;
    stays = λ failed. (refl, refl);
    goes_on = λ whole. appends_nothing _;
  }

  pub room_made :
      65536 ≤ o₁.at → o₂.at ≡ 0 → o₂.page ≡ o₁.page → Stays o₁ o₂ → GoesOn contents o₁ o₂ [] → Room contents o₁ o₂
  room_made full at page stays goes_on = record {
    spot = at ∙ full_spot o₁.at full;
    page = page;
    stays = stays;
    goes_on = goes_on;
  }

  -- the mark of a write that failed stays
  pub kept : Stays o₁ o₂ → HasFailed o₁ → HasFailed o₂
  kept stays failed = rw (stays failed).0 failed

  pub put_none : o₁ ≡ o₂ → Put contents o₁ o₂ []
  put_none same = rw (← same) record {
    filled = sym (none_end o₁.at);
    holds = sym (none_on o₁.page o₁.at);
    stays = λ failed. (refl, refl);
    goes_on = λ whole. appends_nothing _;
  }

  pub put_as : (x y : List ℕ) → x ≡ y → Put contents o₁ o₂ x → Put contents o₁ o₂ y
  put_as x y same put = rw (← same) put

  module _ (o₃ : Out W) where
    stays_both : Stays o₁ o₂ → Stays o₂ o₃ → Stays o₁ o₃
    stays_both first second failed =
        let there : HasFailed o₂ = kept first failed in
        ((second there).0 ∙ (first failed).0, (second there).1 ∙ (first failed).1)

    goes_both : (x y : List ℕ) → Stays o₂ o₃ → GoesOn contents o₁ o₂ x → GoesOn contents o₂ o₃ y → GoesOn contents o₁ o₃ (x ++ y)
    goes_both x y stays first second = λ whole. appends_both _ _ _ x y (first (λ f. whole (rw (stays f).0 f))) (second whole)

    -- bytes after bytes
    pub put_both : (x y : List ℕ) → Put contents o₁ o₂ x → Put contents o₂ o₃ y → Put contents o₁ o₃ (x ++ y)
    put_both x y first second = record {
      filled = second.filled ∙ ap (λ k. text_end k y) first.filled ∙ sym (both_end x y o₁.at);
      holds =
          second.holds ∙ rw (first.filled, first.holds) refl
          ∙ sym (both_on x y o₁.page o₁.at);
      stays = stays_both first.stays second.stays;
      goes_on = goes_both x y second.stays first.goes_on second.goes_on;
    }

    -- a byte where room was made
    pub put_byte :
        (byte : ℕ) → Room contents o₁ o₂ → o₂.at < length o₂.page → o₃.writer ≡ o₂.writer → o₃.failed ≡ o₂.failed →
        o₃.page ≡ set o₂.page o₂.at byte → o₃.at ≡ o₂.at + 1 → Put contents o₁ o₃ (byte ∷ [])
    put_byte byte made room writer failed stands ends = record {
      filled = ends ∙ ap (λ k. k + 1) made.spot ∙ sym (byte_end o₁.at byte);
      holds = stands ∙ rw (made.spot, made.page) (sym (byte_on o₁.page o₁.at byte));
      stays = stays_both made.stays (λ f. (failed, writer));
      goes_on = goes_both [] (byte ∷ []) (λ f. (failed, writer)) made.goes_on (λ whole. rw (writer, stands, ends) (room_holds _ o₂.page o₂.at byte room));
    }

    -- `text`: the byte at i
    pub text_more :
        (word : List ℕ) (i : ℕ) → i < length word → Put contents o₁ o₂ (take i word) → Put contents o₂ o₃ (get_or word i 0 ∷ []) →
        Put contents o₁ o₃ (take (i + 1) word)
    text_more word i more first second = rw (take_more word i 0 more) (put_both _ _ first second)

    -- `hex`: two digits for the byte at i
    pub hex_more :
        (bytes : List ℕ) (i : ℕ) → i < length bytes → Put contents o₁ o₂ (hex_of (take i bytes)) →
        Put contents o₂ o₃ (hex_digit_ascii (get_or bytes i 0 / 16) ∷ hex_digit_ascii (get_or bytes i 0 % 16) ∷ []) →
        Put contents o₁ o₃ (hex_of (take (i + 1) bytes))
    hex_more bytes i more first second = rw (hex_next bytes i more) (put_both _ _ first second)

    -- `number`: the digits, after the word
    pub number_put :
        (word d : List ℕ) (n k : ℕ) → IsDigitCount 10 1 n k → take k d ≡ last_digits 10 k n → Put contents o₁ o₂ word → Put contents o₂ o₃ (take k d) →
        NumberPut contents o₁ o₃ word n
    number_put word d n k fewest spelled first second = record {
      places = k;
      fewest = fewest;
      put = rw (← spelled) (put_both _ _ first second);
    }
