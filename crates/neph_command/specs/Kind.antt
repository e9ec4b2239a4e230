-- What may stand in the place of a word.

pub data Kind : Type 0 where
  -- an address
  addr : Kind
  -- how many bytes, 1 to 64
  len : Kind
  -- 1 to 64 bytes in hexadecimal
  bytes : Kind
  -- the number of a virtual page
  vpn : Kind
  -- the number of one of the guest's pages
  pfn : Kind
  -- how a page is mapped
  mode : Kind
  -- a label's name
  label : Kind
  -- a domain's id, that of domain 0 too
  dom : Kind
  -- a grant reference
  reference : Kind
  -- a handle
  handle : Kind
  -- an offset in a page
  offset : Kind
