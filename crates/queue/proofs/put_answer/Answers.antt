-- The text that each ending has.
use Rattle.lists.proofs.Sets.{put_then}
use Rattle.output.specs.Text.{ascii}
use Rattle.queue.proofs.Texts.{said, text_done, text_kept, text_skipped, text_unread, text_unsynced}
use borrow.Author.Rules.{rules}
use Rattle.queue.proofs.put_answer.Goals as goal

pub returns-in-Done : goal.returns-in-Done
returns-in-Done c = said _ _ _ (text_done _ _ c.in-Done.is) (search rules) c.put_text.ensures

pub returns-in-Kept : goal.returns-in-Kept
returns-in-Kept c = said _ _ _ (text_kept _ _ c.in-Kept.is) (search rules) c.put_text-in-Kept.ensures

pub returns-in-Unsynced : goal.returns-in-Unsynced
returns-in-Unsynced c = let args = c.args in
    said _ _ _ (text_unsynced _ _ c.in-Unsynced.is) (search rules)
    (put_then args.answer.now 0 (ascii "failed: the file has its new bytes, but its directory is not synced: ") args.text.now _ _ _ _ c.put_text-at.ensures c.put_text-in-Unsynced.ensures)

pub returns-in-Unread : goal.returns-in-Unread
returns-in-Unread c = said _ _ _ (text_unread _ _ c.in-Unread.is) (search rules) c.put_text-in-Unread.ensures

pub returns-in-Skipped : goal.returns-in-Skipped
returns-in-Skipped c = said _ _ _ (text_skipped _ _ c.in-Skipped.is) (search rules) c.put_text-in-Skipped.ensures
