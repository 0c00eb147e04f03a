-- Bytes that are lent, as files, and what is seen of them through calls that wait.
use Rattle.std.specs.Prelude.{◌<◌, ◌^◌, length}
use Rattle.disk_model.specs.Disk.{Files}
use Rattle.disk_model.specs.declared.machine.FileNo.{FileNo}
use Rattle.write_queue.specs.Before.{Makes, first_of}
use Rattle.write_queue.specs.Handed.{handed}
use Rattle.write_queue.specs.Waiting.{waiting}
use Rattle.write_queue.specs.Looking.{file_after}
use Rattle.write_queue.specs.declared.lent.Lent.{Lent}
use Rattle.write_queue.specs.declared.past.Past.{Past}
use Rattle.write_queue.specs.declared.queue.Queue.{Queue}

-- three files that hold what is lent
abbrev pub lent_files : Lent → Files
lent_files l = handed l.objects.now l.log_a.now l.log_b.now

-- what they hold once the calls that wait are made
abbrev pub looked : Lent → Queue → Files
looked l queue file = file_after file (lent_files l file) (waiting queue)

-- no file is longer than a place says
abbrev pub AreShort : Files → Type 0
AreShort files = (file : FileNo) → length (files file) < 2 ^ 64

-- the past made the bytes that are lent, and no file is too long
abbrev pub IsLent : Past → Lent → Queue → Type 0
IsLent past lent queue = Makes (first_of past) past.taken (lent_files lent) × AreShort (looked lent queue)
