-- What is a signal's name, as it is said and as it is computed.
use Rattle.std.proofs.Common.{◌≡◌, ◌↔◌, List, ℕ, length, Bool, true, refl}
use Rattle.std.specs.Prelude.{IsTrue, nat_le, ◌&&◌}
use Rattle.std.specs.List.{list_all}
use Rattle.std.proofs.lemmas.List.Sums.{AllPass-from_list_all, list_all-from_AllPass}
use Rattle.std.proofs.lemmas.Bool.{leb-true, le-leb, and_parts}
use Rattle.std.proofs.lemmas.Bool.Decides.{same_from_decides}
use Rattle.lsv_record.specs.Records.{IsSignal}
use Rattle.lsv_request.specs.Requests.{is_signal}

pub named : (text : List ℕ) → is_signal text ≡ true → IsSignal text
named text e =
    let a = and_parts _ _ e in
    let b = and_parts _ _ a.0 in
    let each = AllPass-from_list_all _ text a.1 in
    record {
      some = leb-true 1 (length text) b.0;
      few = leb-true (length text) 32 b.1;
      visible = λ k d below. let v = and_parts _ _ (each k d below) in (leb-true _ _ v.0, leb-true _ _ v.1);
    }

pub is_named : (text : List ℕ) → IsSignal text → is_signal text ≡ true
is_named text s =
    let each : list_all (λ byte. nat_le 33 byte && nat_le byte 126) text ≡ true =
    list_all-from_AllPass _ text (λ k d below. let v = s.visible k d below in rw (le-leb _ _ v.0, le-leb _ _ v.1) refl) in
    rw (le-leb _ _ s.some, le-leb _ _ s.few, each) refl

-- the test of the code is the one of the definitions
pub tested : (b : Bool) (text : List ℕ) → (IsTrue b ↔ IsSignal text) → b ≡ is_signal text
tested b text told = same_from_decides {P = IsSignal text} b (is_signal text) told (named text, is_named text)
