-- Which of the files that are made together are to be synced, so that a file system without a journal has all of them.
use Rattle.std.specs.Prelude.{ℕ, List, Bool, ◌||◌, ◌++◌, ◌∷◌, [], ◌-◌, ◌/◌, max, min, nat_eq}
use Rattle.std.specs.List.{list_any}
use Rattle.lsv_real_disk.specs.declared.made.InodeTable.{InodeTable}
use Rattle.lsv_real_disk.specs.declared.made.NewFile.{NewFile}

-- how many inodes are taken to stand in a block of the table, where the system tells of blocks of this length: an inode has
-- 256 bytes, and no block is taken for longer than 4,096
abbrev pub in_block : ℕ → ℕ
in_block block_length = max (min block_length 4096 / 256) 1

-- the block of the table in which the inode of this number stands; the first one has the number 1
abbrev pub block_of : ℕ → ℕ → ℕ
block_of block_length number = (number - 1) / in_block block_length

-- files that are made together in one folder
pub record MadeView : Type 0 where
  -- the table of inodes of the file system
  pub table : InodeTable
  -- the number of the folder's inode
  pub folder : ℕ
  -- the files to sync, in the order in which they were made
  pub to_sync : List NewFile

-- whether a file that is to be synced stands in this block
abbrev pub syncs : MadeView → ℕ → Bool
syncs made block = list_any (λ file. nat_eq (block_of made.table.block_length file.inode) block) made.to_sync

-- whether a sync brings this block to the disk: the folder's own, or that of a file
abbrev pub brings : MadeView → ℕ → Bool
brings made block = nat_eq (block_of made.table.block_length made.folder) block || syncs made block

-- whether a sync brings the inode of this number, with its block
abbrev pub brings_inode : MadeView → ℕ → Bool
brings_inode made number = brings made (block_of made.table.block_length number)

-- this file is to be synced too
abbrev pub with_synced : MadeView → NewFile → MadeView
with_synced made file = record { table = made.table; folder = made.folder; to_sync = made.to_sync ++ file ∷ [] }
