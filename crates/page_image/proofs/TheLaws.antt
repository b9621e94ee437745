-- The laws of pages and their images.
use Rattle.std.proofs.Common.{sym, ◌∙◌, ap}
use Rattle.page_image.specs.Layout.{page_bytes}
use Rattle.page_image.specs.Laws.{IsDetermined, IsSpelled, IsExact}
use Rattle.page_image.proofs.PageLaws.{IsPage-page_bytes, image_of-page_bytes}
use Rattle.page_image.proofs.RuleLaws.{page_from_rules}
use Rattle.page_image.proofs.KeepLaws.{rules_from_page}

pub determined : IsDetermined
determined a b page_a page_b same = page_a.spelled ∙ ap page_bytes same ∙ sym page_b.spelled

pub spelled : IsSpelled
spelled im good = (IsPage-page_bytes im good, image_of-page_bytes im good)

pub exact : IsExact
exact bytes are = (page_from_rules bytes are, rules_from_page bytes)
