-- Stated: what a page is after bytes of its body were lent.
use Rattle.std.specs.Prelude.{◌≡◌, ◌≤◌, ℕ, ◌+◌, ◌-◌, true, List, ◌++◌, length, take, drop}
use Rattle.rm_base.specs.declared.limits.TheConstants.{PAGE_BYTES, PAGE_HEADER_BYTES}
use Rattle.std.specs.Borrow.{Lends, MutBor, Fml, Array, u8}
use Rattle.page_image.specs.contracts.page.Page.{the_row}
use Rattle.page_image.specs.Image.{Image, has_body}

-- n bytes at offset `at`, counted from the page's start, can be lent: they lie in the body
pub record CanLend (im : Image) (at n : ℕ) : Type 0 where
  pub fields : has_body im.kind ≡ true
  pub past_header : PAGE_HEADER_BYTES ≤ at
  pub within : at + n ≤ PAGE_BYTES

-- the page with those bytes at offset `at`, as many as the body has room for
abbrev pub with_part : Image → ℕ → List ℕ → Image
with_part im at bytes =
    let place = at - PAGE_HEADER_BYTES in
    record im { body = take (PAGE_BYTES - PAGE_HEADER_BYTES) (take place im.body ++ (bytes ++ drop (place + length bytes) im.body)) }

-- s ends with the last bytes behind r at offset `at`
abbrev pub LendsPart : MutBor Image → ℕ → MutBor (List ℕ) → Fml
LendsPart s at r = Lends the_row (Array u8 0) s r (with_part s.now at)
