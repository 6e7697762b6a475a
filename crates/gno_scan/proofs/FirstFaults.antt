-- The first fault of a text with a byte that is no UTF-8.
use Rattle.std.proofs.Common.{◌≡◌, ◌≤◌, ℕ, List, length}
use Rattle.std.specs.Prelude.{Option, Some, None, IfSome}
use Rattle.std.specs.Str.{IsValidUpTo}
use Rattle.gno_scan.specs.declared.scanner.Fault.{Fault}
use Rattle.gno_scan.specs.Scan.{IsFirstFault, IsFound, bad_byte}

pub some_before : (found : Option Fault) (fault : Fault) (bad : ℕ) → found ≡ Some fault → bad ≤ fault.at → IfSome found (λ f. bad ≤ f.at)
some_before found fault bad is before = rw is before

pub none_before : (found : Option Fault) (bad : ℕ) → found ≡ None → IfSome found (λ f. bad ≤ f.at)
none_before found bad is = rw is tt

pub bad_first : (file bad : ℕ) (text : List ℕ) (found : Option Fault) → length text ≤ 1048576 → IsValidUpTo text bad → IsFound file text found → IfSome found (λ f. bad ≤ f.at) → IsFirstFault text (record { code = 1; at = bad })
bad_first file bad text None size valid it before = bad_byte bad it.0 None size valid it.1 tt
bad_first file bad text (Some fault) size valid it before = bad_byte bad it.spans (Some (record { code = fault.code; at = fault.at })) size valid it.fault before
